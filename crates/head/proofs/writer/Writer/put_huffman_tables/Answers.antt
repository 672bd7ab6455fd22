-- `Writer::put_huffman_tables` meets its contract: each table is put behind the last. Assumes nothing.
use Rattle.std.proofs.Common.{arith}
use Rattle.head.specs.Head.{huffman_tables}
use Rattle.head.specs.Huffman.{luma_dc, luma_ac, chroma_dc, chroma_ac}
use Rattle.head.specs.Writer.{writes_on}
use Rattle.head.proofs.writer.Writer.put_huffman_tables.Goals as goal

pub returns : goal.returns
unfolding huffman_tables luma_dc luma_ac chroma_dc chroma_ac
returns c =
    writes_on (writes_on (writes_on c.put_segment.ensures c.put_segment-2.ensures (omega arith)) c.put_segment-3.ensures (omega arith)) c.put_segment-4.ensures (omega arith)
