-- What came is the front of the buffer, and of one record.
use Rattle.std.proofs.Common.{◌-◌}
use Rattle.records.specs.Reading.{ReadsRecord}
use Rattle.records.proofs.input.read_record.Given as goal

abbrev pub invariant-loop-done : goal.invariant-loop-done
invariant-loop-done g l = ReadsRecord (g.R.Read.remaining l.initial.input) l.initial.buffer l.done l.buffer (g.R.Read.remaining l.input)

abbrev pub decreases-loop-done : goal.decreases-loop-done
decreases-loop-done g l = 65537 - l.done
