-- The entries below the index are made, and the others as they were.
use Rattle.std.proofs.Common.{◌++◌, map, ◌≡◌, take, drop}
use Rattle.tables.specs.Quantiser.{made}
use Rattle.tables.proofs.write_table.Given as goal

abbrev pub invariant-loop-i : goal.invariant-loop-i
invariant-loop-i l = l.out ≡ take l.i (map (made l.scale) l.standard) ++ drop l.i l.initial.out
