-- The rules of a well-formed receiver. Assumes nothing.
use Rattle.std.specs.Prelude.{ℕ, ◌≤◌, Bool, true, false, cond, not, ◌&&◌, List, [], ◌∷◌, ◌≡◌, eqb, leb, Result, Ok, Err}
use Rattle.std.proofs.Math.Path.{refl}
use Rattle.std.proofs.Common.{arith}
use borrow.Author.Tests.{leb-true, le-leb, eqb-true, eq-eqb}
use Rattle.fragments.specs.Array.{is_nothing}
use Rattle.fragments.specs.Held as Held
use Rattle.fragments.specs.Order.{in_place, InPlace, known_in_place, is_in_place, reach, reach_within}
use Rattle.fragments.specs.Shared.{holds}
use Rattle.fragments.specs.declared.Fragment.{Fragment}
use Rattle.laws.specs.All.{all}
use Rattle.laws.specs.Any.{any}
use Rattle.laws.specs.Same.{same}
use Rattle.laws.specs.Truth.{split, and_true}
use Rattle.laws.specs.Within.{within, Between, is_within, between}
use Rattle.tables.specs.Quantiser.{tables_of}
use Rattle.wire.specs.Lawful.{is_lawful}
use Rattle.wire.specs.Tables.{is_zero}
use Rattle.wire.specs.TableSource.{table_source, is_made}
use Rattle.wire.specs.declared.Header.{Header}
use Rattle.kept.specs.Kept.{well_kept}
use Rattle.replies.specs.declared.Refusal.{Refusal}
use Rattle.state.specs.Receiver.{held_fragments, unused, header_of}
use Rattle.state.specs.declared.Holding.{Holding}
use Rattle.state.specs.declared.Receiver.{Receiver}

-- its room is 1 to 65,536 bytes
abbrev pub is_room : ℕ → Bool
is_room room = within 1 65536 room

-- it holds 64 fragments at most
abbrev pub is_count : ℕ → Bool
is_count count = leb count 64

-- What is not used is 0: with no picture nothing is known of one, and no fragment held. That end, places and tables are 0 then, and
-- that it is not whole, is in the rules below.
unfoldable pub is_unset : ℕ → ℕ → Header → Bool
is_unset time count h = all is_zero (time ∷ count ∷ h.kind ∷ h.q ∷ h.width ∷ h.height ∷ h.interval ∷ [])

-- the flag is 1 with a picture, whose header fields are such as the reader can give, and 0 without
unfoldable pub picture_right : ℕ → ℕ → ℕ → Header → Bool
picture_right picture time count h = cond (eqb picture 0) (is_unset time count h) (eqb picture 1 && is_lawful h)

-- the end is where the fragment with the marker ends, and 0 while there is none
abbrev pub end_right : ℕ → List Fragment → Bool
end_right end fs = eqb end (Held.end_of fs)

-- a flag in a struct that C sees: 1 or 0
abbrev pub flag : Bool → ℕ
flag b = cond b 1 0

-- The outcome of `whole_flag`, for an end and how many bytes are held.
abbrev pub TellsWhole : ℕ → ℕ → ℕ → Type 0
TellsWhole end bytes w = w ≡ flag (Held.reached end bytes)

abbrev pub whole_right : ℕ → List Fragment → Bool
whole_right whole fs = eqb whole (flag (Held.whole fs))

-- the tables are 0 until byte 0 of the scan is held; from then on those made for a Q of 1 to 99, and for any other without a 0
abbrev pub start_held : List Fragment → Bool
start_held fs = any (holds 0) fs

abbrev pub are_of : ℕ → List ℕ → Bool
are_of q tables = cond (is_made (table_source q)) (same tables (tables_of q)) (not (any is_zero tables))

unfoldable pub tables_given : Bool → ℕ → List ℕ → Bool
tables_given started q tables = cond started (are_of q tables) (all is_zero tables)

abbrev pub tables_right : List Fragment → ℕ → List ℕ → Bool
tables_right fs q tables = tables_given (start_held fs) q tables

-- All of it: besides these, `in_place` says that the fragments have a byte or more, rise, lie apart and inside the room, and that only
-- the last may have the marker; `is_nothing`, that the places behind them are 0; and `well_kept` is the store's own rule.
unfoldable pub well_formed : Receiver → Bool
well_formed r =
    is_room r.room
    && is_count r.fragment_count
    && in_place r.room (held_fragments r)
    && all is_nothing (unused r)
    && picture_right r.picture r.time r.fragment_count (header_of r)
    && end_right r.end (held_fragments r)
    && tables_right (held_fragments r) r.q r.tables
    && well_kept r.kept
    && whole_right r.whole (held_fragments r)

-- What a receiver holds: how many scan bytes, and where the last of them ends.
abbrev pub Look : Type 0
Look = Result Holding Refusal

abbrev pub holding : ℕ → ℕ → Holding
holding held reach = record { held = held; reach = reach }

abbrev pub holding_of : Receiver → Holding
holding_of r = holding (Held.total (held_fragments r)) (reach (held_fragments r))

-- What a look at a receiver tells: what it holds, if it is well formed, and else the refusal.
unfoldable pub inspected : Receiver → Look
inspected r = cond (well_formed r) (Ok (holding_of r)) (Err Refusal.NotWellFormed)

-- The outcome of `inspect`.
abbrev pub Inspects : Receiver → Look → Type 0
Inspects r i = i ≡ inspected r

-- The rules of the fragments, in the group in which the check asks for them.
unfoldable pub fragments_right : List Fragment → List Fragment → ℕ → ℕ → ℕ → Bool
fragments_right fs spare room end whole = in_place room fs && all is_nothing spare && end_right end fs && whole_right whole fs

-- ---- laws

-- what is known of a well-formed receiver
pub record WellFormed (r : Receiver) : Type 0 where
  pub room : Between 1 65536 r.room
  pub count : r.fragment_count ≤ 64
  pub placed : InPlace r.room (held_fragments r)
  pub unused : all is_nothing (unused r) ≡ true
  pub picture : picture_right r.picture r.time r.fragment_count (header_of r) ≡ true
  pub end : r.end ≡ Held.end_of (held_fragments r)
  pub tables : tables_right (held_fragments r) r.q r.tables ≡ true
  pub kept : well_kept r.kept ≡ true
  pub whole : r.whole ≡ flag (Held.whole (held_fragments r))

module _ (r : Receiver) where
  pub known_well_formed : well_formed r ≡ true → WellFormed r
  unfolding well_formed
  known_well_formed e =
      let fs = held_fragments r in
      let room = is_room r.room in
      let count = is_count r.fragment_count in
      let placed = in_place r.room fs in
      let clear = all is_nothing (unused r) in
      let picture = picture_right r.picture r.time r.fragment_count (header_of r) in
      let end = end_right r.end fs in
      let tables = tables_right fs r.q r.tables in
      let a = and_true (room && count && placed && clear && picture && end && tables && well_kept r.kept) (whole_right r.whole fs) e in
      let b = and_true (room && count && placed && clear && picture && end && tables) (well_kept r.kept) a.0 in
      let c = and_true (room && count && placed && clear && picture && end) tables b.0 in
      let d = and_true (room && count && placed && clear && picture) end c.0 in
      let f = and_true (room && count && placed && clear) picture d.0 in
      let g = and_true (room && count && placed) clear f.0 in
      let h = and_true (room && count) placed g.0 in
      let n = and_true room count h.0 in
      record {
        room = between 1 65536 r.room n.0;
        count = leb-true r.fragment_count 64 n.1;
        placed = known_in_place r.room fs h.1;
        unused = g.1;
        picture = f.1;
        end = eqb-true r.end (Held.end_of fs) d.1;
        tables = c.1;
        kept = b.1;
        whole = eqb-true r.whole (flag (Held.whole fs)) a.1;
      }

  pub is_well_formed : WellFormed r → well_formed r ≡ true
  unfolding well_formed
  is_well_formed w =
      let fs = held_fragments r in
      rw (is_within 1 65536 r.room w.room.0 w.room.1, le-leb r.fragment_count 64 w.count, is_in_place r.room fs w.placed, w.unused, w.picture, eq-eqb r.end (Held.end_of fs) w.end, w.tables, w.kept)
      (eq-eqb r.whole (flag (Held.whole fs)) w.whole)

-- the flag tells whether the picture is whole
pub flag_told : (b : Bool) → eqb (flag b) 1 ≡ b
flag_told true = refl
flag_told false = refl

pub whole_told : {r : Receiver} → WellFormed r → eqb r.whole 1 ≡ Held.whole (held_fragments r)
whole_told {r} w = rw w.whole (flag_told (Held.whole (held_fragments r)))

-- it holds no more bytes than its room has
pub held_within_room : {r : Receiver} → WellFormed r → Held.total (held_fragments r) ≤ r.room
held_within_room {r} w =
    let p = w.placed in
    omega (arith, Held.total_within 0 r.room (held_fragments r) p.order p.inside (omega arith))

pub reach_within_room : {r : Receiver} → WellFormed r → reach (held_fragments r) ≤ r.room
reach_within_room {r} w = reach_within r.room (held_fragments r) w.placed.inside

-- a look at a receiver, by whether it is well formed
module _ (r : Receiver) where
  pub inspected_holds : well_formed r ≡ true → inspected r ≡ Ok (holding_of r)
  unfolding inspected
  inspected_holds e = rw e

  pub inspected_not : well_formed r ≡ false → inspected r ≡ Err Refusal.NotWellFormed
  unfolding inspected
  inspected_not e = rw e

  pub holds_inspected : {h : Holding} → inspected r ≡ Ok h → (well_formed r ≡ true) × (h ≡ holding_of r)
  holds_inspected {h} i = split (well_formed r)
      (λ e. let o = inspected_holds e in (e, cc))
      (λ e. let o = inspected_not e in let z : ◌≡◌ {A = ℕ} 0 1 = cc in absurd (omega arith))

  pub not_inspected : {n : Refusal} → inspected r ≡ Err n → (well_formed r ≡ false) × (n ≡ Refusal.NotWellFormed)
  not_inspected {n} i = split (well_formed r)
      (λ e. let o = inspected_holds e in let z : ◌≡◌ {A = ℕ} 0 1 = cc in absurd (omega arith))
      (λ e. let o = inspected_not e in (e, cc))

-- what there is without a picture, and with one
module _ (time count : ℕ) (h : Header) where
  pub none_held : picture_right 0 time count h ≡ true → count ≡ 0
  unfolding picture_right is_unset
  none_held e = eqb-true count 0 (and_true (is_zero count) _ (and_true (is_zero time) _ e).1).0

  pub some_held : (picture : ℕ) → picture_right picture time count h ≡ true → (count ≡ 0 → ⊥) → is_lawful h ≡ true
  unfolding picture_right
  some_held picture e some =
      split (eqb picture 0)
      (λ z. absurd (some (none_held (rw (eqb-true picture 0 z) at e))))
      (λ z. (and_true (eqb picture 1) (is_lawful h) (rw z at e)).1)

  pub one_held : picture_right 1 time count h ≡ is_lawful h
  unfolding picture_right
  one_held = refl

-- the tables before byte 0 is held, and behind it
module _ (q : ℕ) (tables : List ℕ) where
  pub not_started : tables_given false q tables ≡ all is_zero tables
  unfolding tables_given
  not_started = refl

  pub started : tables_given true q tables ≡ are_of q tables
  unfolding tables_given
  started = refl
