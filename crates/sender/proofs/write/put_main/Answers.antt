-- `sender::write::put_main` meets its contract: each field is put behind the last. Assumes nothing.
use Rattle.std.proofs.Common.{refl, arith}
use Rattle.laws.specs.Put.{puts_more}
use Rattle.laws.specs.Spelled.{spelled}
use Rattle.sender.proofs.write.put_main.Goals as goal

pub returns : goal.returns
unfolding spelled
returns c = puts_more c.put_bytes.ensures (puts_more c.put_number.ensures c.put_bytes-2.ensures (omega arith) refl) (omega arith) refl
