-- `sender::write::put_tables` meets its contract: what is due at the offset. Assumes nothing.
use Rattle.std.proofs.Common.{refl, arith}
use Rattle.laws.specs.Put.{puts_more}
use Rattle.laws.specs.Spelled.{spelled}
use Rattle.sender.specs.Packet.{table_header}
use Rattle.sender.proofs.write.put_tables.Goals as goal

pub returns-then-has_table_header : goal.returns-then-has_table_header
unfolding table_header spelled
returns-then-has_table_header c =
    let room = rw (← c.if-has_table_header.ensures) at c.requires.offset_in_bounds in
    rw (← c.if-has_table_header.ensures)
    (puts_more c.put_bytes.ensures (puts_more c.put_number.ensures c.put_bytes-then-has_table_header.ensures (omega arith) (omega arith)) (omega arith) refl)
