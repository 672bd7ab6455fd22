-- `Writer::put_segment` meets its contract: marker and length, and behind them both parts of the content. Assumes nothing.
use Rattle.std.proofs.Common.{arith, length-append}
use Rattle.laws.specs.Spelled.{spelled}
use Rattle.head.specs.Segment.{segment}
use Rattle.head.specs.Writer.{writes_on}
use Rattle.head.proofs.writer.Writer.put_segment.Goals as goal

pub returns : goal.returns
unfolding segment spelled
returns c =
    rw length-append (writes_on (rw (c.to_be_bytes.ensures, c.code.ensures) at c.put.ensures) (writes_on c.put-2.ensures c.put-3.ensures (omega arith)) (omega arith))
