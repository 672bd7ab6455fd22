-- Laws on lists of numbers. Assumes nothing.
use Rattle.std.specs.Prelude.{ℕ, zero, suc, ◌+◌, ◌-◌, ◌≤◌, ◌<◌, List, [], ◌∷◌, ◌++◌, map, ◌≡◌, refl, length, get_or, take, drop, set, replicate}
use Rattle.std.proofs.Common.{sym, ap, not-suc-le-zero, le_of_suc-le-suc, add-one, arith, take-take, drop-drop}
use Rattle.std.proofs.Math.Nat.{sub-zero, zero-sub, suc-sub-suc}
use Rattle.std.proofs.lemmas.List.{length-replicate}
use Rattle.std.proofs.Math.Seq.{take-nil}

pub empty : (l : List ℕ) → length l ≡ 0 → l ≡ []
empty [] e = refl
empty (x ∷ l) e = absurd (omega arith)

pub map_at : (f : ℕ → ℕ) (l : List ℕ) (i : ℕ) → i < length l → get_or (map f l) i 0 ≡ f (get_or l i 0)
map_at f [] i h = absurd (not-suc-le-zero h)
map_at f (x ∷ l) zero h = refl
map_at f (x ∷ l) (suc i) h = map_at f l i (le_of_suc-le-suc h)

-- A list that is filled from the front with another, one store a turn, is `take i new ++ drop i old` after i turns.
fill_suc : (new old : List ℕ) (i : ℕ) → i < length new → i < length old → set (take i new ++ drop i old) i (get_or new i 0) ≡ take (suc i) new ++ drop (suc i) old
fill_suc [] old i h g = absurd (not-suc-le-zero h)
fill_suc (x ∷ new) [] i h g = absurd (not-suc-le-zero g)
fill_suc (x ∷ new) (y ∷ old) zero h g = refl
fill_suc (x ∷ new) (y ∷ old) (suc i) h g = ap (λ (l : List ℕ). x ∷ l) (fill_suc new old i (le_of_suc-le-suc h) (le_of_suc-le-suc g))

pub fill_more : (new old : List ℕ) (i : ℕ) → i < length new → i < length old → set (take i new ++ drop i old) i (get_or new i 0) ≡ take (i + 1) new ++ drop (i + 1) old
fill_more new old i h g = rw add-one (fill_suc new old i h g)

-- Of a number that stands m times, what is left behind n places.
pub drop_replicate : (n m : ℕ) (a : ℕ) → drop n (replicate m a) ≡ replicate (m - n) a
drop_replicate zero m a = rw (sub-zero m)
drop_replicate (suc n) zero a = rw (zero-sub (suc n))
drop_replicate (suc n) (suc m) a = rw (suc-sub-suc m n) (drop_replicate n m a)

-- The same into m places that hold one number a at first.
pub fill_same : (new : List ℕ) (m a i : ℕ) → i < length new → i < m → set (take i new ++ replicate (m - i) a) i (get_or new i 0) ≡ take (i + 1) new ++ replicate (m - (i + 1)) a
fill_same new m a i h g = rw (← drop_replicate i m a, ← drop_replicate (i + 1) m a) (fill_more new (replicate m a) i h (rw (length-replicate m a) g))

-- A part of a part.
pub drop_take : (t m : ℕ) (l : List ℕ) → drop t (take m l) ≡ take (m - t) (drop t l)
drop_take zero m l = rw (sub-zero m)
drop_take (suc t) zero l = rw (zero-sub (suc t))
drop_take (suc t) (suc m) [] = sym (take-nil (suc m - suc t))
drop_take (suc t) (suc m) (x ∷ l) = rw (suc-sub-suc m t) (drop_take t m l)

pub part_of_part : (n t m h : ℕ) (l : List ℕ) → t + n ≤ m → take n (drop t (take m (drop h l))) ≡ take n (drop (h + t) l)
part_of_part n t m h l fits = rw (drop_take t m (drop h l), take-take n (m - t) (drop t (drop h l)) (omega arith), drop-drop t h l)
