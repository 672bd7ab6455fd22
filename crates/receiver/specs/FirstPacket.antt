-- What a first packet, the one at offset 0, means for its picture's tables and for those kept. Assumes nothing.
use Rattle.std.specs.Prelude.{◌≡◌, ℕ, Bool, true, false, cond, not, ◌&&◌, ◌||◌, List, ◌==◌}
use Rattle.std.proofs.Common.{⊎_elim, arith, eqb-true, ne_eqb}
use Rattle.std.proofs.Math.Path.{refl}
use Rattle.std.proofs.lemmas.Bool.{not-false}
use Rattle.kept.specs.Kept.{is_keepable, has, find, keep, well_kept, keep_well, find_full}
use Rattle.kept.specs.declared.Kept.{Kept}
use Rattle.laws.specs.Any.{any, none_any}
use Rattle.laws.specs.Each.{each_weaken}
use Rattle.laws.specs.Same.{same, same_self}
use Rattle.laws.specs.Truth.{split, never_both}
use Rattle.laws.specs.Within.{Between}
use Rattle.state.specs.WellFormed.{are_of, tables_given}
use Rattle.tables.specs.Quantiser.{tables_of}
use Rattle.wire.specs.Readable.{Brought, Readable}
use Rattle.wire.specs.Reading.{tables_in}
use Rattle.wire.specs.TableSource.{table_source, is_made}
use Rattle.wire.specs.Tables.{is_zero}
use Rattle.wire.specs.declared.Packet.{Packet}
use Rattle.wire.specs.declared.TableSource.{TableSource}
use Rattle.wire.specs.declared.TableSource.TheVariants.{Made, KeptOrBrought, AlwaysBrought, Reserved}

abbrev pub is_first : Packet → Bool
is_first s = s.offset == 0

-- it brings tables: the length of its table header is not 0
abbrev pub brings : Packet → Bool
brings s = not (s.tables.length == 0)

-- The tables that a first packet gives its picture, by the source of its Q: made; brought, or else those kept for the Q; always
-- brought. The reader gives no packet of a reserved Q.
abbrev pub given_from : TableSource → Kept → List ℕ → Packet → List ℕ
given_from Made k p s = tables_of s.header.q
given_from KeptOrBrought k p s = cond (brings s) (tables_in p s) (find k s.header.q)
given_from AlwaysBrought k p s = tables_in p s
given_from Reserved k p s = tables_in p s

unfoldable pub given : Kept → List ℕ → Packet → List ℕ
given k p s = given_from (table_source s.header.q) k p s

-- it is a first packet of a Q whose tables are kept, but brings none, and none are kept for this Q
unfoldable pub is_bare : Kept → Packet → Bool
is_bare k s = is_first s && is_keepable s.header.q && not (brings s) && not (has k s.header.q)

-- The picture's tables and the store when a packet has been accepted: tables that it brings are kept at once.
unfoldable pub tables_after : List ℕ → Kept → List ℕ → Packet → List ℕ
tables_after tables k p s = cond (is_first s) (given k p s) tables

unfoldable pub kept_after : Kept → List ℕ → Packet → Kept
kept_after k p s = cond (brings s) (keep k s.header.q (tables_in p s)) k

-- ---- laws

module _ (p : List ℕ) (s : Packet) (read : Readable p s) where
  -- tables that come have no 0
  brought_full : Brought p s → any is_zero (tables_in p s) ≡ false
  brought_full b = none_any is_zero (tables_in p s) (each_weaken (Between 1 255) (λ (v : ℕ). is_zero v ≡ false) (λ v h. ne_eqb v 0 (λ z. omega arith)) (tables_in p s) b.entries)

  brings_full : brings s ≡ true → any is_zero (tables_in p s) ≡ false
  brings_full e = ⊎_elim (λ none. absurd (never_both e (rw none))) brought_full read.tables

  module _ (k : Kept) (w : well_kept k ≡ true) where
    -- the store stays well kept
    pub kept_after_well : well_kept (kept_after k p s) ≡ true
    unfolding kept_after
    kept_after_well = split (brings s) (λ e. rw e (keep_well k s.header.q (tables_in p s) w (brings_full e))) (λ e. rw e w)

    module _ (supplied : is_bare k s ≡ false) where
      -- tables that are given are such as a picture of that Q has, and so it has them from then on
      pub given_right : is_first s ≡ true → are_of s.header.q (given k p s) ≡ true
      unfolding given is_bare
      given_right first = go (table_source s.header.q) refl
        where
          go : (t : TableSource) → table_source s.header.q ≡ t → cond (is_made t) (same (given_from t k p s) (tables_of s.header.q)) (not (any is_zero (given_from t k p s))) ≡ true
          go Made e = same_self (tables_of s.header.q)
          go KeptOrBrought e = split (brings s)
              (λ b. rw (b, brings_full b))
              (λ b. rw (b, find_full k s.header.q w (not-false (has k s.header.q) (rw (first, e, b) at supplied))))
          go AlwaysBrought e = rw (brought_full (read.always (eqb-true s.offset 0 first) (rw e)))
          go Reserved e = absurd (never_both refl (rw e at read.header.q))

      pub tables_after_right : (started : Bool) (tables : List ℕ) → tables_given started s.header.q tables ≡ true → tables_given (is_first s || started) s.header.q (tables_after tables k p s) ≡ true
      unfolding tables_after tables_given
      tables_after_right started tables right = split (is_first s) (λ e. rw e (given_right e)) (λ e. rw e right)
