-- The store: the last tables received for one Q of 128 to 254. Assumes nothing.
use Rattle.std.specs.Prelude.{ℕ, Bool, true, false, cond, not, ◌&&◌, List, [], ◌∷◌, ◌≡◌, refl, eqb, length, replicate}
use Rattle.std.proofs.Common.{◌∙◌, arith}
use borrow.Author.Tests.{eqb-true, eq-eqb, ne_eqb, not-true}
use Rattle.laws.specs.All.{all}
use Rattle.laws.specs.Any.{any}
use Rattle.laws.specs.Truth.{split, and_true}
use Rattle.wire.specs.TableSource.{table_source, is_kept_or_brought, kept_or_brought_between}
use Rattle.wire.specs.Tables.{is_zero}
use Rattle.kept.specs.declared.Kept.{Kept}

-- tables that are not known
unfoldable pub blank : List ℕ
blank = replicate 128 0

-- Tables of Q 128 to 254 are kept; those of 255 are not.
abbrev pub is_keepable : ℕ → Bool
is_keepable q = is_kept_or_brought (table_source q)

-- Nothing is kept.
abbrev pub none : Kept
none = record { q = 0; tables = blank }

-- Whether tables are kept for a Q; which ones, and blank ones where there are none; and the store with these tables for a Q.
unfoldable pub has : Kept → ℕ → Bool
has k q = is_keepable q && eqb k.q q

unfoldable pub find : Kept → ℕ → List ℕ
find k q = cond (has k q) k.tables blank

unfoldable pub keep : Kept → ℕ → List ℕ → Kept
keep k q tables = cond (is_keepable q) (record { q = q; tables = tables }) k

-- What may stand in it: nothing, all of it 0; or tables of such a Q, none of them 0.
unfoldable pub well_kept : Kept → Bool
well_kept k = cond (eqb k.q 0) (all is_zero k.tables) (is_keepable k.q && not (any is_zero k.tables))

-- The outcomes of `none`, `has`, `find`, `keep`, `well_kept` and `is_blank`.
abbrev pub IsNone : Kept → Type 0
IsNone k = k ≡ none

abbrev pub TellsHas : Kept → ℕ → Bool → Type 0
TellsHas k q b = b ≡ has k q

abbrev pub Finds : Kept → ℕ → List ℕ → Type 0
Finds k q tables = tables ≡ find k q

abbrev pub Keeps : Kept → ℕ → List ℕ → Kept → Type 0
Keeps k q tables k' = k' ≡ keep k q tables

abbrev pub TellsWell : Kept → Bool → Type 0
TellsWell k b = b ≡ well_kept k

abbrev pub TellsBlank : List ℕ → Bool → Type 0
TellsBlank tables b = b ≡ all is_zero tables

-- ---- laws

-- 128 zeros are blank tables
pub is_blank : (tables : List ℕ) → length tables ≡ 128 → all is_zero tables ≡ true → tables ≡ blank
unfolding blank
is_blank tables long z = zeros tables z ∙ rw long
  where
    zeros : (l : List ℕ) → all is_zero l ≡ true → l ≡ replicate (length l) 0
    zeros [] e = refl
    zeros (x ∷ l) e = let t = and_true (is_zero x) (all is_zero l) e in cc (eqb-true x 0 t.0, zeros l t.1)

-- an empty store is well kept
pub none_well : well_kept none ≡ true
unfolding well_kept blank
none_well = refl

pub has_none : (q : ℕ) → has none q ≡ false
unfolding has
has_none q = split (is_keepable q)
    (λ e. rw (e, ne_eqb 0 q (λ z. omega (arith, kept_or_brought_between q e))))
    (λ e. rw e)

module _ (k : Kept) (q : ℕ) (tables : List ℕ) where
  -- tables of such a Q are found again as they were kept
  pub has_kept : is_keepable q ≡ true → has (keep k q tables) q ≡ true
  unfolding has keep
  has_kept e = rw (e, eq-eqb q q refl)

  pub find_kept : is_keepable q ≡ true → find (keep k q tables) q ≡ tables
  unfolding find has keep
  find_kept e = rw (e, eq-eqb q q refl)

  -- and no others change the store
  pub keeps_none : is_keepable q ≡ false → keep k q tables ≡ k
  unfolding keep
  keeps_none e = rw e

  -- with tables without a 0 a store stays well kept
  pub keep_well : well_kept k ≡ true → any is_zero tables ≡ false → well_kept (keep k q tables) ≡ true
  unfolding keep well_kept
  keep_well w full = split (is_keepable q)
      (λ e. rw (e, ne_eqb q 0 (λ z. omega (arith, kept_or_brought_between q e)), e, full))
      (λ e. rw e w)

-- what is found in a store that is well kept has no 0
pub find_full : (k : Kept) (q : ℕ) → well_kept k ≡ true → has k q ≡ true → any is_zero (find k q) ≡ false
unfolding find has well_kept
find_full k q w h =
    let t = and_true (is_keepable q) (eqb k.q q) h in
    let same = eqb-true k.q q t.1 in
    let rest = rw (ne_eqb k.q 0 (λ z. omega (arith, kept_or_brought_between q t.0))) at w in
    rw h (not-true (any is_zero k.tables) (and_true (is_keepable k.q) (not (any is_zero k.tables)) rest).1)
