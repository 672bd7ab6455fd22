-- A set of a picture's packets: a flag for each, `get_or s k true` for packet k. Assumes nothing.
use Rattle.std.specs.Prelude.{ℕ, Bool, true, false, ◌&&◌, List, [], ◌∷◌, replicate}

abbrev pub every : List Bool → Bool
every [] = true
every (b ∷ s) = b && every s

abbrev pub none : ℕ → List Bool
none n = replicate n false
