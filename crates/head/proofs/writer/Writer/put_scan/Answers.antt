-- `Writer::put_scan` meets its contract: the content is the definition's, byte for byte. Assumes nothing.
use mathlib.Core.List.{flat_map}
use Rattle.head.specs.Head.{scan_header}
use Rattle.head.proofs.writer.Writer.put_scan.Goals as goal

pub returns : goal.returns
unfolding scan_header flat_map
returns c = c.put_segment.ensures
