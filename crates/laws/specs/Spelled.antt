-- Numbers spelled in bytes, most significant byte first. Assumes nothing.
use Rattle.std.specs.Prelude.{ℕ, zero, suc, ◌/◌, ◌%◌, ◌<◌, List, [], ◌∷◌, ◌++◌}
use Rattle.std.proofs.Common.{arith}
use Rattle.laws.specs.Each.{Each, each_append}

-- v in n bytes, modulo 256^n
unfoldable pub spelled : ℕ → ℕ → List ℕ
spelled zero v = []
spelled (suc n) v = spelled n (v / 256) ++ (v % 256 ∷ [])

-- ---- laws

pub each_spelled : (n v : ℕ) → Each (λ (b : ℕ). b < 256) (spelled n v)
unfolding spelled
each_spelled zero v = tt
each_spelled (suc n) v = each_append (λ (b : ℕ). b < 256) (spelled n (v / 256)) (v % 256 ∷ []) (each_spelled n (v / 256)) (omega arith, tt)
