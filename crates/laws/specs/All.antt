-- Whether each element of a list passes a test, and whether each two of them do. Assumes nothing.
use Rattle.std.specs.Prelude.{ℕ, zero, suc, ◌+◌, ◌<◌, Bool, true, false, ◌&&◌, List, [], ◌∷◌, ◌≡◌, refl, length, get_or, take}
use Rattle.std.specs.List.{list_all}
use Rattle.std.proofs.Common.{◌∙◌, not-suc-le-zero, le_of_suc-le-suc, add-one}
use Rattle.laws.specs.Each.{Each}
use Rattle.laws.specs.Truth.{and_true, and_false, and_truth, and_assoc}

module _ {A : Type 0} (test : A → Bool) where
  abbrev pub all : List A → Bool
  all = list_all test

  -- as what has to hold of each
  pub all_each : (l : List A) → all l ≡ true → Each (λ (x : A). test x ≡ true) l
  all_each [] h = tt
  all_each (x ∷ l) h = let t = and_true (test x) (all l) h in (t.0, all_each l t.1)

  pub each_all : (l : List A) → Each (λ (x : A). test x ≡ true) l → all l ≡ true
  each_all [] h = refl
  each_all (x ∷ l) h = rw h.0 (each_all l h.1)

  -- one element more of the front of a list
  all_suc : (l : List A) (i : ℕ) (d : A) → i < length l → all (take (suc i) l) ≡ (all (take i l) && test (get_or l i d))
  all_suc [] i d h = absurd (not-suc-le-zero h)
  all_suc (x ∷ l) zero d h = and_truth (test x)
  all_suc (x ∷ l) (suc i) d h = rw (all_suc l i d (le_of_suc-le-suc h)) (and_assoc (test x) (all (take i l)) (test (get_or l i d)))

  module _ (l : List A) (i : ℕ) (d : A) (h : i < length l) where
    pub all_more : all (take (i + 1) l) ≡ (all (take i l) && test (get_or l i d))
    all_more = rw add-one (all_suc l i d h)

    pub all_pass : test (get_or l i d) ≡ true → all (take (i + 1) l) ≡ all (take i l)
    all_pass e = all_more ∙ rw e (and_truth (all (take i l)))

    pub all_fail : test (get_or l i d) ≡ false → all (take (i + 1) l) ≡ false
    all_fail e = all_more ∙ rw e (and_false (all (take i l)))

-- each element with each behind it
module _ {A : Type 0} (test : A → A → Bool) where
  abbrev pub pairwise : List A → Bool
  pairwise [] = true
  pairwise (x ∷ l) = all (test x) l && pairwise l
