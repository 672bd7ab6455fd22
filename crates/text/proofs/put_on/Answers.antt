-- `text::put_on` meets its contract. Assumes nothing.
use Rattle.std.proofs.Common.{refl, arith}
use Rattle.slices.specs.Slices.{puts_fits}
use Rattle.text.proofs.put_on.Goals as goal

pub returns : goal.returns
returns c = record { puts = puts_fits (omega arith) c.put.ensures; next = refl }
