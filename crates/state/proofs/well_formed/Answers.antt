-- `state::well_formed` meets its contract: rule by rule. Assumes nothing.
use Rattle.std.proofs.Common.{arith}
use Rattle.std.proofs.lemmas.Grind.{common_steps}
use Rattle.state.proofs.Grouped.{all_told}
use Rattle.state.proofs.well_formed.Goals as goal

pub returns-then-tables_right : goal.returns-then-tables_right
returns-then-tables_right c = grind (arith, common_steps, all_told c.args.receiver.now c.requires)

pub returns-else-tables_right : goal.returns-else-tables_right
returns-else-tables_right c = grind (arith, common_steps, all_told c.args.receiver.now c.requires)
