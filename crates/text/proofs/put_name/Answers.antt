-- `text::put_name` meets its contract: each part is put behind the last. Assumes nothing.
use Rattle.std.proofs.Common.{append_assoc, arith}
use Rattle.laws.specs.Put.{puts_on}
use Rattle.text.proofs.put_name.Goals as goal

pub returns : goal.returns
returns c = simp append_assoc (simp append_assoc at (puts_on (puts_on (puts_on c.put_on-at.ensures c.put_on-at-2.ensures (omega arith)) c.put_on-at-3.ensures (omega arith)) c.put_on.ensures (omega arith)))
