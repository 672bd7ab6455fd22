-- The first `done` bytes are those of `from`, and the rest as they were.
use Rattle.std.proofs.Common.{◌-◌, ◌≤◌, ◌≡◌, ◌++◌, length, take, drop}
use Rattle.slices.proofs.copy_in_pieces.Given as goal

abbrev pub invariant-loop-done : goal.invariant-loop-done
invariant-loop-done l = (l.done ≤ length l.from) × (l.to ≡ take l.done l.from ++ drop l.done l.initial.to)

abbrev pub decreases-loop-done : goal.decreases-loop-done
decreases-loop-done l = length l.from - l.done
