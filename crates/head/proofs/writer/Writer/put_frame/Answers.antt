-- `Writer::put_frame` meets its contract: the content is the definition's, byte for byte. Assumes nothing.
use mathlib.Core.List.{flat_map}
use Rattle.laws.specs.Spelled.{spelled}
use Rattle.head.specs.Head.{frame_header}
use Rattle.head.proofs.writer.Writer.put_frame.Goals as goal

pub returns : goal.returns
unfolding frame_header spelled flat_map
returns c = rw (c.luma_sampling.ensures, c.to_be_bytes.ensures, c.to_be_bytes-2.ensures) at c.put_segment.ensures
