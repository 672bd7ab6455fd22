-- Whether two lists of numbers are the same. Assumes nothing.
use Rattle.std.specs.Prelude.{ℕ, zero, suc, ◌+◌, ◌<◌, Bool, true, false, ◌&&◌, List, [], ◌∷◌, ◌≡◌, refl, eqb, length, get_or, take}
use Rattle.std.proofs.Common.{ap, ◌∙◌, not-suc-le-zero, le_of_suc-le-suc, add-one, eqb-true, eq-eqb, ne_eqb}
use Rattle.laws.specs.Truth.{and_true, and_false, and_truth, and_assoc}

abbrev pub same : List ℕ → List ℕ → Bool
same [] [] = true
same [] (y ∷ m) = false
same (x ∷ l) [] = false
same (x ∷ l) (y ∷ m) = eqb x y && same l m

-- ---- laws

pub same_self : (l : List ℕ) → same l l ≡ true
same_self [] = refl
same_self (x ∷ l) = rw (eq-eqb x x refl) (same_self l)

pub same_true : (l m : List ℕ) → same l m ≡ true → l ≡ m
same_true [] [] h = refl
same_true [] (y ∷ m) h = cc
same_true (x ∷ l) [] h = cc
same_true (x ∷ l) (y ∷ m) h = let t = and_true (eqb x y) (same l m) h in cc (eqb-true x y t.0, same_true l m t.1)

-- of other lengths they are not
pub same_lengths : (l m : List ℕ) → (length l ≡ length m → ⊥) → same l m ≡ false
same_lengths [] [] h = absurd (h refl)
same_lengths [] (y ∷ m) h = refl
same_lengths (x ∷ l) [] h = refl
same_lengths (x ∷ l) (y ∷ m) h = rw (same_lengths l m (λ e. h (ap suc e))) (and_false (eqb x y))

-- one number more of the fronts of both
same_suc : (l m : List ℕ) (i : ℕ) → i < length l → i < length m → same (take (suc i) l) (take (suc i) m) ≡ (same (take i l) (take i m) && eqb (get_or l i 0) (get_or m i 0))
same_suc [] m i h g = absurd (not-suc-le-zero h)
same_suc (x ∷ l) [] i h g = absurd (not-suc-le-zero g)
same_suc (x ∷ l) (y ∷ m) zero h g = and_truth (eqb x y)
same_suc (x ∷ l) (y ∷ m) (suc i) h g =
    rw (same_suc l m i (le_of_suc-le-suc h) (le_of_suc-le-suc g))
    (and_assoc (eqb x y) (same (take i l) (take i m)) (eqb (get_or l i 0) (get_or m i 0)))

module _ (l m : List ℕ) (i : ℕ) (h : i < length l) (g : i < length m) where
  same_more : same (take (i + 1) l) (take (i + 1) m) ≡ (same (take i l) (take i m) && eqb (get_or l i 0) (get_or m i 0))
  same_more = rw add-one (same_suc l m i h g)

  pub same_pass : get_or l i 0 ≡ get_or m i 0 → same (take (i + 1) l) (take (i + 1) m) ≡ same (take i l) (take i m)
  same_pass e = same_more ∙ rw (eq-eqb (get_or l i 0) (get_or m i 0) e) (and_truth (same (take i l) (take i m)))

  pub same_fail : (get_or l i 0 ≡ get_or m i 0 → ⊥) → same (take (i + 1) l) (take (i + 1) m) ≡ false
  same_fail n = same_more ∙ rw (ne_eqb (get_or l i 0) (get_or m i 0) n) (and_false (same (take i l) (take i m)))
