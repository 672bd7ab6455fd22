-- Less of the line is left.
use Rattle.std.proofs.Common.{length}
use Rattle.vectors.proofs.made_up.read.Given as goal

abbrev pub decreases-loop-rest : goal.decreases-loop-rest
decreases-loop-rest l = length l.rest
