-- `wire::tables` meets its contract. Assumes nothing.
use Rattle.wire.specs.Reading.{tables_in}
use Rattle.wire.proofs.tables.Goals as goal

pub returns : goal.returns
unfolding tables_in
returns c = rw (← c.part.ensures) c.filled_up.ensures
