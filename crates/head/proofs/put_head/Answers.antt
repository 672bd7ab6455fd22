-- `head::put_head` meets its contract: each part is put behind the last. Assumes nothing.
use Rattle.std.proofs.Common.{rules, arith}
use Rattle.head.specs.Head.{head}
use Rattle.head.specs.Writer.{writes_on}
use Rattle.head.proofs.put_head.Goals as goal

pub returns : goal.returns
unfolding head
returns c =
    let whole =
    writes_on (writes_on (writes_on (writes_on (writes_on c.put.ensures c.put_quantisers.ensures (omega arith)) c.put_restarts.ensures (omega arith)) c.put_frame.ensures (omega arith)) c.put_huffman_tables.ensures (omega arith)) c.put_scan.ensures (omega arith) in
    record { same = search rules }
