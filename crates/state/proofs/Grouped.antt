-- The rules in the order in which the check asks for them, and by a survey of the fragments: they are the same. Assumes nothing.
use Rattle.std.proofs.Common.{◌≡◌, ℕ, Bool, true, cond, ◌&&◌, List, sym, ap, ◌∙◌, leb, eqb}
use borrow.Author.Tests.{leb-true, le-leb, eqb-true, eq-eqb}
use Rattle.fragments.specs.Array.{is_nothing, surveyed, Surveys}
use Rattle.fragments.specs.Held as Held
use Rattle.fragments.specs.Order.{in_place, known_in_place, is_in_place, in_line, in_line_in_place}
use Rattle.fragments.specs.declared.Fragment.{Fragment}
use Rattle.fragments.specs.declared.Surveyed.{Surveyed}
use Rattle.kept.specs.Kept.{well_kept}
use Rattle.fragments.specs.Shared.{holds}
use Rattle.laws.specs.All.{all}
use Rattle.laws.specs.Any.{any}
use Rattle.laws.specs.Truth.{split, and_true, and_false, same_test}
use Rattle.laws.specs.Within.{is_within, between}
use Rattle.state.specs.Receiver.{held_fragments, unused, header_of}
use Rattle.state.specs.WellFormed.{is_room, is_count, picture_right, end_right, whole_right, flag, tables_given, tables_right, fragments_right, well_formed, known_well_formed, is_well_formed}
use Rattle.state.specs.declared.Receiver.{Receiver}

abbrev pub picture_of : Receiver → Bool
picture_of r = picture_right r.picture r.time r.fragment_count (header_of r)

abbrev pub fragments_of : Receiver → Bool
fragments_of r = fragments_right (held_fragments r) (unused r) r.room r.end r.whole

abbrev pub tables_of : Receiver → Bool
tables_of r = tables_right (held_fragments r) r.q r.tables

unfoldable pub grouped : Receiver → Bool
grouped r = is_room r.room && is_count r.fragment_count && picture_of r && fragments_of r && tables_of r && well_kept r.kept

module _ (r : Receiver) where
  placed_rule : fragments_of r ≡ true → (in_place r.room (held_fragments r) ≡ true) × (all is_nothing (unused r) ≡ true) × (end_right r.end (held_fragments r) ≡ true) × (whole_right r.whole (held_fragments r) ≡ true)
  unfolding fragments_right
  placed_rule e =
      let fs = held_fragments r in
      let a = and_true (in_place r.room fs && all is_nothing (unused r) && end_right r.end fs) (whole_right r.whole fs) e in
      let b = and_true (in_place r.room fs && all is_nothing (unused r)) (end_right r.end fs) a.0 in
      let c = and_true (in_place r.room fs) (all is_nothing (unused r)) b.0 in
      (c.0, c.1, b.1, a.1)

  pub are_in_place : fragments_of r ≡ true → in_place r.room (held_fragments r) ≡ true
  are_in_place e = (placed_rule e).0

  pub regrouped : grouped r ≡ well_formed r
  unfolding grouped fragments_right
  regrouped = same_test (grouped r) (well_formed r) there back
    where
      there : grouped r ≡ true → well_formed r ≡ true
      there e =
          let a = and_true (is_room r.room && is_count r.fragment_count && picture_of r && fragments_of r && tables_of r) (well_kept r.kept) e in
          let b = and_true (is_room r.room && is_count r.fragment_count && picture_of r && fragments_of r) (tables_of r) a.0 in
          let c = and_true (is_room r.room && is_count r.fragment_count && picture_of r) (fragments_of r) b.0 in
          let d = and_true (is_room r.room && is_count r.fragment_count) (picture_of r) c.0 in
          let n = and_true (is_room r.room) (is_count r.fragment_count) d.0 in
          let f = placed_rule c.1 in
          is_well_formed r (record {
            room = between 1 65536 r.room n.0;
            count = leb-true r.fragment_count 64 n.1;
            placed = known_in_place r.room (held_fragments r) f.0;
            unused = f.1;
            picture = d.1;
            end = eqb-true r.end (Held.end_of (held_fragments r)) f.2;
            tables = b.1;
            kept = a.1;
            whole = eqb-true r.whole (flag (Held.whole (held_fragments r))) f.3;
          })

      back : well_formed r ≡ true → grouped r ≡ true
      back e =
          let w = known_well_formed r e in
          let fs = held_fragments r in
          rw (
            is_within 1 65536 r.room w.room.0 w.room.1,
            le-leb r.fragment_count 64 w.count,
            w.picture,
            is_in_place r.room fs w.placed,
            w.unused,
            eq-eqb r.end (Held.end_of fs) w.end,
            eq-eqb r.whole (flag (Held.whole fs)) w.whole,
            w.tables,
          )
          w.kept

-- the rules of the fragments, by the fields of a survey
pub fragments_told : {s : Surveyed} (room end whole : ℕ) (fs behind : List Fragment) → s ≡ surveyed fs behind →
    (s.ordered && leb s.stop room && leb s.marker 1 && s.clear && eqb end (cond (eqb s.marker 1) s.stop 0) && eqb whole (flag (Held.reached end s.bytes))) ≡ fragments_right fs behind room end whole
unfolding in_line fragments_right
fragments_told room end whole fs behind e = rw (e, in_line_in_place room fs) (split (in_place room fs)
    (λ p. rw (p, ← Held.end_last fs (known_in_place room fs p).marked) (split (eqb end (Held.end_of fs)) (λ q. rw (eqb-true end (Held.end_of fs) q)) (λ q. rw (q, and_false (all is_nothing behind)))))
    (λ p. rw p))

-- all of them, by what a survey tells of byte 0
pub all_told : (r : Receiver) {s : Surveyed} → Surveys r.fragments r.fragment_count s →
    (is_room r.room && is_count r.fragment_count && picture_of r && fragments_of r && tables_given s.from_0 r.q r.tables && well_kept r.kept) ≡ well_formed r
unfolding grouped
all_told r {s} survey = split (fragments_of r) (λ f. rw (from_0 f) (regrouped r)) (λ f. let none = and_false (is_room r.room && is_count r.fragment_count && picture_of r) in rw (f, none) (rw (f, none) at (regrouped r)))
  where
    from_0 : fragments_of r ≡ true → s.from_0 ≡ any (holds 0) (held_fragments r)
    from_0 f = ap (λ (s : Surveyed). s.from_0) survey ∙ sym (Held.start_held (held_fragments r) (known_in_place r.room (held_fragments r) (are_in_place r f)).order)
