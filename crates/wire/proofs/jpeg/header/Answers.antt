-- `wire::jpeg::header` meets its contract. Assumes nothing.
use Rattle.wire.proofs.jpeg.header.Goals as goal

pub returns : goal.returns
returns c = rw (c.interval.ensures, c.byte_at-2.ensures, c.byte_at.ensures, c.q_of.ensures, c.kind_of.ensures)
