-- A scan area in which some fragments of a scan have been put. Assumes nothing.
use Rattle.std.specs.Prelude.{ℕ, zero, suc, List, [], ◌∷◌, length, get_or, cond}
use Rattle.fragments.specs.Shared.{holds}
use Rattle.fragments.specs.declared.Fragment.{Fragment}
use Rattle.laws.specs.Any.{any}

-- n bytes, of which f says each
abbrev pub tab : ℕ → (ℕ → ℕ) → List ℕ
tab zero f = []
tab (suc n) f = f 0 ∷ tab n (λ i. f (suc i))

-- The scan's bytes at the places that the fragments hold, and the old bytes elsewhere.
unfoldable pub filled : List Fragment → List ℕ → List ℕ → List ℕ
filled fs scan old = tab (length old) (λ i. cond (any (holds i) fs) (get_or scan i 0) (get_or old i 0))
