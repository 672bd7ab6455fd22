-- An element put into a list at a place: those from there on move up. Assumes nothing.
use Rattle.std.specs.Prelude.{ℕ, zero, suc, Bool, ◌||◌, List, [], ◌∷◌, ◌++◌, ◌≡◌, refl, length, take, drop}
use Rattle.std.proofs.Common.{ap}
use Rattle.laws.specs.Any.{any}
use Rattle.laws.specs.Each.{Each}
use Rattle.laws.specs.Truth.{or_swap}

module _ {A : Type 0} where
  abbrev pub insert_at : ℕ → A → List A → List A
  insert_at i x l = take i l ++ (x ∷ drop i l)

  -- ---- laws

  pub length_insert_at : (i : ℕ) (x : A) (l : List A) → length (insert_at i x l) ≡ suc (length l)
  length_insert_at zero x l = refl
  length_insert_at (suc i) x [] = refl
  length_insert_at (suc i) x (y ∷ l) = ap suc (length_insert_at i x l)

  pub any_insert_at : (test : A → Bool) (i : ℕ) (x : A) (l : List A) → any test (insert_at i x l) ≡ (test x || any test l)
  any_insert_at test zero x l = refl
  any_insert_at test (suc i) x [] = refl
  any_insert_at test (suc i) x (y ∷ l) = rw (any_insert_at test i x l) (or_swap (test y) (test x) (any test l))

  pub each_insert_at : (P : A → Type 0) (i : ℕ) (x : A) (l : List A) → P x → Each P l → Each P (insert_at i x l)
  each_insert_at P zero x l h a = (h, a)
  each_insert_at P (suc i) x [] h a = (h, tt)
  each_insert_at P (suc i) x (y ∷ l) h a = (a.0, each_insert_at P i x l h a.1)
