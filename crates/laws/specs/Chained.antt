-- Whether each element of a list passes a test with the one before it. Assumes nothing.
use Rattle.std.specs.Prelude.{ℕ, zero, suc, ◌+◌, ◌<◌, Bool, true, false, ◌&&◌, List, [], ◌∷◌, ◌≡◌, refl, length, get_or, take}
use Rattle.std.proofs.Common.{◌∙◌, not-suc-le-zero, le_of_suc-le-suc, add-one}
use Rattle.laws.specs.Truth.{and_false, and_truth, and_assoc}

-- the last of a list, and x where it is empty
abbrev pub last_of : {A : Type 0} → A → List A → A
last_of x [] = x
last_of x (y ∷ l) = last_of y l

last_suc : {A : Type 0} (x : A) (l : List A) (i : ℕ) (d : A) → i < length l → last_of x (take (suc i) l) ≡ get_or l i d
last_suc x [] i d h = absurd (not-suc-le-zero h)
last_suc x (y ∷ l) zero d h = refl
last_suc x (y ∷ l) (suc i) d h = last_suc y l i d (le_of_suc-le-suc h)

pub last_more : {A : Type 0} (x : A) (l : List A) (i : ℕ) (d : A) → i < length l → last_of x (take (i + 1) l) ≡ get_or l i d
last_more x l i d h = rw add-one (last_suc x l i d h)

module _ {A : Type 0} (test : A → A → Bool) where
  -- the first passes it with x
  abbrev pub chained : A → List A → Bool
  chained x [] = true
  chained x (y ∷ l) = test x y && chained y l

  -- one element more of the front of a list
  chained_suc : (x : A) (l : List A) (i : ℕ) (d : A) → i < length l → chained x (take (suc i) l) ≡ (chained x (take i l) && test (last_of x (take i l)) (get_or l i d))
  chained_suc x [] i d h = absurd (not-suc-le-zero h)
  chained_suc x (y ∷ l) zero d h = and_truth (test x y)
  chained_suc x (y ∷ l) (suc i) d h = rw (chained_suc y l i d (le_of_suc-le-suc h)) (and_assoc (test x y) (chained y (take i l)) (test (last_of y (take i l)) (get_or l i d)))

  module _ (x : A) (l : List A) (i : ℕ) (d : A) (h : i < length l) where
    chained_more : chained x (take (i + 1) l) ≡ (chained x (take i l) && test (last_of x (take i l)) (get_or l i d))
    chained_more = rw add-one (chained_suc x l i d h)

    pub chained_pass : test (last_of x (take i l)) (get_or l i d) ≡ true → chained x (take (i + 1) l) ≡ chained x (take i l)
    chained_pass e = chained_more ∙ rw e (and_truth (chained x (take i l)))

    pub chained_fail : test (last_of x (take i l)) (get_or l i d) ≡ false → chained x (take (i + 1) l) ≡ false
    chained_fail e = chained_more ∙ rw e (and_false (chained x (take i l)))
