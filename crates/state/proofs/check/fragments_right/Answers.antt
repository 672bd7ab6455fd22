-- `state::check::fragments_right` meets its contract: rule by rule. Assumes nothing.
use Rattle.std.proofs.Common.{arith}
use Rattle.std.proofs.lemmas.Grind.{common_steps}
use Rattle.state.proofs.Grouped.{fragments_told}
use Rattle.state.proofs.check.fragments_right.Goals as goal

pub returns-then-end_right : goal.returns-then-end_right
returns-then-end_right c fs behind e = grind (arith, common_steps, fragments_told c.args.room c.args.end c.args.whole fs behind e)

pub returns-else-end_right : goal.returns-else-end_right
returns-else-end_right c fs behind e = grind (arith, common_steps, fragments_told c.args.room c.args.end c.args.whole fs behind e)
