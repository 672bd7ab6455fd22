-- As many bytes came as places were filled.
use Rattle.std.proofs.Common.{◌≤◌}
use Rattle.vectors.proofs.text.read_line.Given as goal

abbrev pub invariant-loop-place : goal.invariant-loop-place
invariant-loop-place g l = l.length ≤ l.place-index
