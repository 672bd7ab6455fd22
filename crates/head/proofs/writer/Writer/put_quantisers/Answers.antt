-- `Writer::put_quantisers` meets its contract: each half of the tables is put behind the last. Assumes nothing.
use Rattle.std.proofs.Common.{arith}
use Rattle.head.specs.Head.{quantisers}
use Rattle.head.specs.Writer.{writes_on}
use Rattle.head.proofs.writer.Writer.put_quantisers.Goals as goal

pub returns : goal.returns
unfolding quantisers
returns c =
    writes_on (rw c.split_at.ensures.front at c.put_segment.ensures) (rw c.split_at.ensures.back at c.put_segment-2.ensures) (omega arith)
