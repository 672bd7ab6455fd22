-- A set of a picture's packets: a flag for each, `get_or s k true` for packet k. Assumes nothing.
use Rattle.std.proofs.Common.{sym, ◌∙◌, arith}
use Rattle.std.proofs.Math.Dec.{eqb-zero-suc, eqb-suc-zero, eqb-suc-suc}
use Rattle.std.proofs.lemmas.List.{set-get_or}
use Rattle.std.specs.Prelude.{ℕ, zero, suc, ◌<◌, Bool, true, false, ◌||◌, List, [], ◌∷◌, ◌≡◌, refl, eqb, length, get_or, set}
use Rattle.laws.specs.Truth.{never_both, or_true, or_false}
use Rattle.demands.specs.Sets.{every, none}

-- ---- laws

pub every_in : (s : List Bool) (k : ℕ) → every s ≡ true → get_or s k true ≡ true
every_in [] k w = refl
every_in (true ∷ s) zero w = refl
every_in (true ∷ s) (suc k) w = every_in s k w
every_in (false ∷ s) k w = absurd (never_both w refl)

-- where not every packet is in a set, some one is not
pub some_out : (s : List Bool) → every s ≡ false → (k : ℕ) × (k < length s) × (get_or s k true ≡ false)
some_out [] o = absurd (never_both refl o)
some_out (true ∷ s) o = let m = some_out s o in (suc m.0, omega (arith, m.1), m.2)
some_out (false ∷ s) o = (0, omega arith, refl)

pub not_every : (s : List Bool) (k : ℕ) → get_or s k true ≡ false → every s ≡ false
not_every [] k o = absurd (never_both refl o)
not_every (true ∷ s) zero o = absurd (never_both refl o)
not_every (true ∷ s) (suc k) o = not_every s k o
not_every (false ∷ s) k o = refl

pub none_out : (n k : ℕ) → k < n → get_or (none n) k true ≡ false
none_out zero k i = absurd (omega arith)
none_out (suc n) zero i = refl
none_out (suc n) (suc k) i = none_out n k (omega arith)

-- one packet more
pub in_set : (s : List Bool) (j k : ℕ) → get_or (set s j true) k true ≡ (get_or s k true || eqb k j)
in_set [] j k = refl
in_set (b ∷ s) zero zero = sym (or_true b)
in_set (b ∷ s) zero (suc k) = rw (eqb-suc-zero k, or_false)
in_set (b ∷ s) (suc j) zero = rw (eqb-zero-suc j, or_false)
in_set (b ∷ s) (suc j) (suc k) = rw eqb-suc-suc (in_set s j k)

-- what is in the set is not put in again
pub set_in : (s : List Bool) (k : ℕ) → get_or s k true ≡ true → set s k true ≡ s
set_in s k m = rw m at (set-get_or s k true)

-- whether packet k is the first, asked either way round
pub swapped : (k : ℕ) → eqb 0 k ≡ eqb k 0
swapped zero = refl
swapped (suc k) = eqb-zero-suc k ∙ sym (eqb-suc-zero k)
