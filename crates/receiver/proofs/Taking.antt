-- What an accepted packet makes of the picture that it is for, in the parts in which the code makes it. Assumes nothing.
use Rattle.std.proofs.Common.{◌≡◌, ℕ, ◌+◌, ◌<◌, ◌≤◌, Bool, true, false, cond, not, ◌&&◌, eqb, List, [], ◌∷◌, length, get_or, take, drop, sym, refl, ap, ◌∙◌, arith, eq-eqb, ne_eqb, eqb-true}
use borrow.Author.Tests.{not-true, eqb-false}
use Rattle.fragments.specs.Array.{is_nothing, no_fragments, padded, held_padded}
use Rattle.fragments.specs.Clash.{is_marked, end_insert}
use Rattle.fragments.specs.Fragments.{stop}
use Rattle.fragments.specs.Held.{total, end_of, whole, total_within}
use Rattle.fragments.specs.Insertion.{place, insert, place_within, length_insert, total_insert}
use Rattle.fragments.specs.declared.Fragment.{Fragment}
use Rattle.kept.specs.Kept.{blank, is_keepable, keep, keeps_none}
use Rattle.kept.specs.declared.Kept.{Kept}
use Rattle.laws.specs.All.{all}
use Rattle.laws.specs.Insert.{insert_at}
use Rattle.laws.specs.Put.{put}
use Rattle.laws.specs.Same.{same_true}
use Rattle.laws.specs.Truth.{split, and_true, and_truth, never_both}
use Rattle.slices.specs.Slices.{put_at, put_fits}
use Rattle.state.specs.Receiver.{held_fragments}
use Rattle.state.specs.WellFormed.{flag, flag_told, tables_given, known_well_formed}
use Rattle.state.specs.declared.Receiver.{Receiver}
use Rattle.tables.specs.Quantiser.{tables_of}
use Rattle.wire.specs.Readable.{scan_long}
use Rattle.wire.specs.Reading.{scan_in, tables_in}
use Rattle.wire.specs.TableSource.{table_source, is_made, made_between, made_to_99}
use Rattle.wire.specs.Tables.{is_zero}
use Rattle.wire.specs.declared.Packet.{Packet}
use Rattle.wire.specs.declared.TableSource.TheVariants.{Made}
use Rattle.receiver.specs.FirstPacket.{brings, given, tables_after, kept_after}
use Rattle.receiver.specs.Known.{Known, numbers}
use Rattle.receiver.specs.declared.judge.Arrival.{Arrival}
use Rattle.receiver.specs.Picture.{starts, picture_for, picture_source, picture_room, picture_array, picture_tables, picture_kept, picture_in_place, picture_end, picture_unused}
use Rattle.receiver.specs.Step.{holding, taken, answering}
use Rattle.receiver.specs.Verdict.{Accepted, fragment_of}
use Rattle.receiver.specs.declared.picture.Numbers.{Numbers}
use Rattle.receiver.proofs.Placing.{picture_length}

-- the picture's tables with the packet: those that a first one gives; else none where it begins the picture, and else the receiver's
module _ (r : Receiver) (p : List ℕ) (s : Packet) where
  pub tables_first : s.offset ≡ 0 → given r.kept p s ≡ tables_after (picture_for r s).tables (picture_for r s).kept p s
  unfolding tables_after
  tables_first e = rw (picture_kept r s, eq-eqb s.offset 0 e)

  module _ (later : s.offset ≡ 0 → ⊥) where
    pub tables_begun : starts r s ≡ true → blank ≡ tables_after (picture_for r s).tables (picture_for r s).kept p s
    unfolding tables_after
    tables_begun new = rw (picture_tables r s, new, ne_eqb s.offset 0 later)

    pub tables_stay : starts r s ≡ false → r.tables ≡ tables_after (picture_for r s).tables (picture_for r s).kept p s
    unfolding tables_after
    tables_stay old = rw (picture_tables r s, old, ne_eqb s.offset 0 later)

-- the store with the packet: tables that are kept and come, and else as it was
module _ (k : Kept) (p : List ℕ) (s : Packet) where
  pub store_kept : (is_keepable s.header.q && brings s) ≡ true → keep k s.header.q (tables_in p s) ≡ kept_after k p s
  unfolding kept_after
  store_kept e = rw (and_true (is_keepable s.header.q) (brings s) e).1

  pub store_stays : (is_keepable s.header.q && brings s) ≡ false → k ≡ kept_after k p s
  unfolding kept_after
  store_stays e =
      split (brings s)
      (λ came. rw came (sym (keeps_none k s.header.q (tables_in p s) (sym (and_truth (is_keepable s.header.q)) ∙ rw came at e))))
      (λ none. rw none)

-- of a Q that makes its tables, those that are right and known are the ones it makes
known_made : (q : ℕ) (started : Bool) (tables : List ℕ) → table_source q ≡ Made → tables_given started q tables ≡ true → is_zero (get_or tables 0 0) ≡ false → tables ≡ tables_of q
unfolding tables_given
known_made q true tables source right known = same_true tables (tables_of q) (rw source at right)
known_made q false [] source right known = absurd (never_both refl known)
known_made q false (x ∷ l) source right known = absurd (never_both (and_true (is_zero x) (all is_zero l) right).0 known)

-- the tables that a first packet would make are the receiver's, where it has those of the same Q
pub tables_made : {r : Receiver} {a : Arrival} → Known r a → a.said.offset ≡ 0 → (is_made (table_source a.said.header.q) && eqb r.q a.said.header.q && not (is_zero (get_or r.tables 0 0))) ≡ true → r.tables ≡ tables_after (picture_for r a.said).tables (picture_for r a.said).kept a.packet.now a.said
unfolding given
tables_made {r} {a} known first held =
    let q = a.said.header.q in
    let t = and_true (is_made (table_source q) && eqb r.q q) (not (is_zero (get_or r.tables 0 0))) held in
    let u = and_true (is_made (table_source q)) (eqb r.q q) t.0 in
    let between = made_between q u.0 in
    let source = made_to_99 q between.0 between.1 in
    let right = rw (eqb-true r.q q u.1) at (known_well_formed r known.formed).tables in
    known_made q _ r.tables source right (not-true (is_zero (get_or r.tables 0 0)) t.1) ∙ rw source at (tables_first r a.packet.now a.said first)

-- the tables as they are set, by all of these cases
pub tables_set : {r : Receiver} {a : Arrival} {begun : Bool} → Known r a → begun ≡ starts r a.said →
    cond (eqb a.said.offset 0) (cond (is_made (table_source a.said.header.q) && eqb r.q a.said.header.q && not (eqb (get_or r.tables 0 0) 0)) r.tables (given r.kept a.packet.now a.said)) (cond begun blank r.tables) ≡ tables_after (picture_for r a.said).tables (picture_for r a.said).kept a.packet.now a.said
tables_set {r} {a} known b =
    split (eqb a.said.offset 0)
    (λ e. split (is_made (table_source a.said.header.q) && eqb r.q a.said.header.q && not (eqb (get_or r.tables 0 0) 0))
    (λ m. rw (e, m) (tables_made known (eqb-true a.said.offset 0 e) m))
    (λ m. rw (e, m) (tables_first r a.packet.now a.said (eqb-true a.said.offset 0 e))))
    (λ e. split (starts r a.said)
    (λ n. rw (e, b, n) (tables_begun r a.packet.now a.said (eqb-false a.said.offset 0 e) n))
    (λ n. rw (e, b, n) (tables_stay r a.packet.now a.said (eqb-false a.said.offset 0 e) n)))

-- the next receiver but for the store, put together of the picture's numbers and of its new parts
pub put_together : (r : Receiver) (p : List ℕ) (s : Packet) {x : Numbers} {end told count : ℕ} {fragments : List Fragment}
    → let v = picture_for r s in let fs = insert (fragment_of s) (held_fragments v) in let after = tables_after v.tables v.kept p s in
    x ≡ numbers (starts r s) v → end ≡ end_of fs → told ≡ flag (whole fs) → count ≡ length fs → fragments ≡ padded fs → (tables : List ℕ) → tables ≡ after
    → record {
      source = r.source;
      room = r.room;
      picture = 1;
      time = x.time;
      kind = x.header.kind;
      q = x.header.q;
      width = x.header.width;
      height = x.header.height;
      interval = x.header.interval;
      end = end;
      whole = told;
      fragment_count = count;
      fragments = fragments;
      tables = tables;
      kept = r.kept;
    } ≡ holding v fs after r.kept
put_together r p s same e w n f tables t = rw same (cc (picture_source r s, picture_room r s))

module _ {r : Receiver} {a : Arrival} (known : Known r a) (accepted : Accepted (picture_for r a.said) a.said) where
  pub ends_inside : stop (fragment_of a.said) ≤ 65536
  ends_inside = omega (arith, accepted.fits, picture_room r a.said, (known_well_formed r known.formed).room)

  pub few_held : (picture_for r a.said).fragment_count < 64
  few_held = omega (arith, accepted.few, picture_length known)

  pub one_more : (picture_for r a.said).fragment_count + 1 ≡ length (insert (fragment_of a.said) (held_fragments (picture_for r a.said)))
  one_more = omega (arith, picture_length known, length_insert (fragment_of a.said) (held_fragments (picture_for r a.said)))

  pub place_among : place (fragment_of a.said) (held_fragments (picture_for r a.said)) ≤ (picture_for r a.said).fragment_count
  place_among = omega (arith, picture_length known, place_within (fragment_of a.said) (held_fragments (picture_for r a.said)))

  pub clear_behind : all is_nothing (drop (picture_for r a.said).fragment_count (cond (starts r a.said) no_fragments r.fragments)) ≡ true
  clear_behind = rw (← picture_array r a.said) (picture_unused r a.said known.formed)

  pub put_among : padded (insert_at (place (fragment_of a.said) (held_fragments (picture_for r a.said))) (fragment_of a.said) (take (picture_for r a.said).fragment_count (cond (starts r a.said) no_fragments r.fragments))) ≡ padded (insert (fragment_of a.said) (held_fragments (picture_for r a.said)))
  put_among = rw (← picture_array r a.said)

  pub end_after : cond (is_marked (fragment_of a.said)) (stop (fragment_of a.said)) (picture_for r a.said).end ≡ end_of (insert (fragment_of a.said) (held_fragments (picture_for r a.said)))
  end_after =
      ap (cond (is_marked (fragment_of a.said)) (stop (fragment_of a.said))) (picture_end r a.said known.formed)
      ∙ sym (end_insert (fragment_of a.said) (held_fragments (picture_for r a.said)) (picture_in_place r a.said known.formed).order accepted.clear)

  pub total_after : total (held_fragments (picture_for r a.said)) + a.said.scan.length ≡ total (insert (fragment_of a.said) (held_fragments (picture_for r a.said)))
  total_after = omega (arith, total_insert (fragment_of a.said) (held_fragments (picture_for r a.said)))

  -- what is held and comes fits into 32 bits
  pub held_small : total (held_fragments (picture_for r a.said)) ≤ 65536
  held_small =
      let placed = picture_in_place r a.said known.formed in
      omega (arith, (known_well_formed r known.formed).room, total_within 0 r.room (held_fragments (picture_for r a.said)) placed.order placed.inside (omega arith))

  -- the scan data fits where it goes
  pub written : (area : List ℕ) {after bytes : List ℕ} → length area ≡ r.room → bytes ≡ scan_in a.packet.now a.said → after ≡ put_at area a.said.offset bytes → after ≡ put area a.said.offset (scan_in a.packet.now a.said)
  written area lent e w = w ∙ rw e (put_fits area a.said.offset (scan_in a.packet.now a.said) (omega (arith, scan_long r.source a.packet.now a.said known.read, accepted.fits, picture_room r a.said)))

-- a reply, a count and a receiver that are the same
pub same_answer : {reply reply' n n' : ℕ} {r r' : Receiver} → reply ≡ reply' → n ≡ n' → r ≡ r' → answering reply n r ≡ answering reply' n' r'
same_answer a b c = cc

-- the flag of a picture with an accepted packet
pub taken_told : (r : Receiver) (p : List ℕ) (s : Packet) → eqb (taken r p s).whole 1 ≡ whole (held_fragments (taken r p s))
unfolding taken
taken_told r p s = rw (held_padded (insert (fragment_of s) (held_fragments r))) (flag_told (whole (insert (fragment_of s) (held_fragments r))))
