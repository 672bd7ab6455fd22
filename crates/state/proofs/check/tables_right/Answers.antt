-- `state::check::tables_right` meets its contract: by where the tables come from. Assumes nothing.
use Rattle.wire.specs.TableSource.{made_between}
use Rattle.state.proofs.check.tables_right.Goals as goal

pub are_made-requires : goal.are_made-requires
are_made-requires c = made_between c.args.q (rw (← c.in-Made.ensures))
