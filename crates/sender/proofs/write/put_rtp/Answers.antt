-- `sender::write::put_rtp` meets its contract: each field is put behind the last. Assumes nothing.
use Rattle.std.proofs.Common.{refl, arith}
use Rattle.laws.specs.Put.{puts_more}
use Rattle.laws.specs.Spelled.{spelled}
use Rattle.sender.proofs.write.put_rtp.Goals as goal

pub returns : goal.returns
unfolding spelled
returns c =
    let sequence = rw c.from.ensures at c.put_number.ensures in
    puts_more c.put_bytes.ensures (puts_more sequence (puts_more c.put_number-2.ensures c.put_number-3.ensures (omega arith) refl) (omega arith) refl) (omega arith) refl
