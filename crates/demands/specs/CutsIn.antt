-- The cuts of a scan that are in a set: what a receiver holds when the packets of that set have come. Assumes nothing.
use Rattle.std.specs.Prelude.{Bool, true, false, List, [], ◌∷◌}
use Rattle.fragments.specs.declared.Fragment.{Fragment}

abbrev pub cuts_in : List Bool → List Fragment → List Fragment
cuts_in s [] = []
cuts_in [] (c ∷ cs) = []
cuts_in (true ∷ s) (c ∷ cs) = c ∷ cuts_in s cs
cuts_in (false ∷ s) (c ∷ cs) = cuts_in s cs
