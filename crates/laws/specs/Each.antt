-- What each element of a list has. Assumes nothing.
use Rattle.std.specs.Prelude.{ℕ, zero, suc, ◌<◌, List, [], ◌∷◌, ◌++◌, map, length, get_or, take, drop}
use Rattle.std.proofs.Common.{not-suc-le-zero, le_of_suc-le-suc}

module _ {A : Type 0} (P : A → Type 0) where
  abbrev pub Each : List A → Type 0
  Each [] = Unit {0}
  Each (x ∷ l) = P x × Each l

  pub each_append : (l m : List A) → Each l → Each m → Each (l ++ m)
  each_append [] m a b = b
  each_append (x ∷ l) m a b = (a.0, each_append l m a.1 b)

  pub each_parts : (l m : List A) → Each (l ++ m) → Each l × Each m
  each_parts [] m h = (tt, h)
  each_parts (x ∷ l) m h = let t = each_parts l m h.1 in ((h.0, t.0), t.1)

  pub each_map : {B : Type 0} (f : B → A) → ((x : B) → P (f x)) → (l : List B) → Each (map f l)
  each_map f h [] = tt
  each_map f h (x ∷ l) = (h x, each_map f h l)

  pub each_take : (n : ℕ) (l : List A) → Each l → Each (take n l)
  each_take zero l a = tt
  each_take (suc n) [] a = tt
  each_take (suc n) (x ∷ l) a = (a.0, each_take n l a.1)

  pub each_drop : (n : ℕ) (l : List A) → Each l → Each (drop n l)
  each_drop zero l a = a
  each_drop (suc n) [] a = tt
  each_drop (suc n) (x ∷ l) a = each_drop n l a.1

-- the element at an index
pub each_at : {A : Type 0} (P : A → Type 0) (l : List A) (i : ℕ) (d : A) → Each P l → i < length l → P (get_or l i d)
each_at P [] i d a h = absurd (not-suc-le-zero h)
each_at P (x ∷ l) zero d a h = a.0
each_at P (x ∷ l) (suc i) d a h = each_at P l i d a.1 (le_of_suc-le-suc h)

pub each_weaken : {A : Type 0} (P Q : A → Type 0) → ((x : A) → P x → Q x) → (l : List A) → Each P l → Each Q l
each_weaken P Q f [] a = tt
each_weaken P Q f (x ∷ l) a = (f x a.0, each_weaken P Q f l a.1)

pub each_both : {A : Type 0} (P Q : A → Type 0) (l : List A) → Each P l → Each Q l → Each (λ (x : A). P x × Q x) l
each_both P Q [] a b = tt
each_both P Q (x ∷ l) a b = ((a.0, b.0), each_both P Q l a.1 b.1)
