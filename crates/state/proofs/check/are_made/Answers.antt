-- `state::check::are_made` meets its contract. Assumes nothing.
use Rattle.std.proofs.Common.{rules, ◌∙◌, ap}
use Rattle.laws.specs.Same.{same}
use Rattle.tables.specs.MakeTables.{makes_all}
use Rattle.state.proofs.check.are_made.Goals as goal

pub returns : goal.returns
returns c = c.are_same.ensures ∙ ap (same c.args.tables.now) (makes_all c.args.q c.requires (search rules) c.make_tables.ensures)
