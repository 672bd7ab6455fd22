-- `sender::write::put_restart` meets its contract: what is due for the type. Assumes nothing.
use Rattle.std.proofs.Common.{refl, arith}
use Rattle.laws.specs.Put.{puts_more}
use Rattle.laws.specs.Spelled.{spelled}
use Rattle.sender.specs.Packet.{restart_header}
use Rattle.sender.proofs.write.put_restart.Goals as goal

pub returns-then-has_restart : goal.returns-then-has_restart
unfolding restart_header spelled
returns-then-has_restart c =
    let room = rw (← c.if-has_restart.ensures) at c.requires in
    rw (← c.if-has_restart.ensures) (puts_more c.put_number.ensures c.put_number-then-has_restart.ensures (omega arith) refl)
