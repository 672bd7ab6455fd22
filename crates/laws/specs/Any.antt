-- Whether some element of a list passes a test. Assumes nothing.
use Rattle.std.specs.Prelude.{ℕ, zero, suc, ◌+◌, ◌<◌, Bool, true, false, ◌||◌, List, [], ◌∷◌, ◌≡◌, refl, length, get_or, take}
use Rattle.std.specs.List.{list_any}
use Rattle.std.proofs.Common.{◌∙◌, not-suc-le-zero, le_of_suc-le-suc, add-one}
use Rattle.laws.specs.Each.{Each}
use Rattle.laws.specs.Truth.{or_none, or_true, or_false, or_assoc}

module _ {A : Type 0} (test : A → Bool) where
  abbrev pub any : List A → Bool
  any = list_any test

  -- no element passes: each fails
  pub any_none : (l : List A) → any l ≡ false → Each (λ (x : A). test x ≡ false) l
  any_none [] h = tt
  any_none (x ∷ l) h = let t = or_none (test x) (any l) h in (t.0, any_none l t.1)

  pub none_any : (l : List A) → Each (λ (x : A). test x ≡ false) l → any l ≡ false
  none_any [] h = refl
  none_any (x ∷ l) h = rw h.0 (none_any l h.1)

  -- one element more of the front of a list
  any_suc : (l : List A) (i : ℕ) (d : A) → i < length l → any (take (suc i) l) ≡ (any (take i l) || test (get_or l i d))
  any_suc [] i d h = absurd (not-suc-le-zero h)
  any_suc (x ∷ l) zero d h = or_false (test x)
  any_suc (x ∷ l) (suc i) d h = rw (any_suc l i d (le_of_suc-le-suc h)) (or_assoc (test x) (any (take i l)) (test (get_or l i d)))

  module _ (l : List A) (i : ℕ) (d : A) (h : i < length l) where
    any_more : any (take (i + 1) l) ≡ (any (take i l) || test (get_or l i d))
    any_more = rw add-one (any_suc l i d h)

    pub any_hit : test (get_or l i d) ≡ true → any (take (i + 1) l) ≡ true
    any_hit e = any_more ∙ rw e (or_true (any (take i l)))

    pub any_miss : test (get_or l i d) ≡ false → any (take (i + 1) l) ≡ any (take i l)
    any_miss e = any_more ∙ rw e (or_false (any (take i l)))
