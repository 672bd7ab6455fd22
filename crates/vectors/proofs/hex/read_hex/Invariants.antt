-- The bytes stay within the output, and less of the line is left.
use Rattle.std.proofs.Common.{◌≤◌, length}
use Rattle.vectors.proofs.hex.read_hex.Given as goal

abbrev pub invariant-loop-rest : goal.invariant-loop-rest
invariant-loop-rest l = l.n ≤ length l.out

abbrev pub decreases-loop-rest : goal.decreases-loop-rest
decreases-loop-rest l = length l.rest
