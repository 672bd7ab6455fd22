-- No more were counted than were looked at.
use Rattle.std.proofs.Common.{◌≤◌}
use Rattle.vectors.proofs.state_case.used_bytes.Given as goal

abbrev pub invariant-loop-byte : goal.invariant-loop-byte
invariant-loop-byte l = l.n ≤ l.byte-index
