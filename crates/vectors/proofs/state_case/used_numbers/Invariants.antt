-- Of each fragment three numbers were counted at most.
use Rattle.std.proofs.Common.{◌≤◌, ◌*◌}
use Rattle.vectors.proofs.state_case.used_numbers.Given as goal

abbrev pub invariant-loop-f : goal.invariant-loop-f
invariant-loop-f l = l.n ≤ 3 * l.f-index
