-- `wire::are_full` meets its contract: the length, then the entries. Assumes nothing.
use Rattle.std.proofs.Common.{eq-eqb, ne_eqb, length, ap}
use Rattle.std.proofs.Math.Bool.{not}
use Rattle.wire.specs.Tables.{are_full}
use Rattle.wire.proofs.are_full.Goals as goal

pub returns-then-tables-eq128 : goal.returns-then-tables-eq128
unfolding are_full
returns-then-tables-eq128 c = rw (eq-eqb (length c.args.tables.now) 128 c.if-tables-eq128.true) (ap not c.contains.ensures.value)

pub returns-else-tables-eq128 : goal.returns-else-tables-eq128
unfolding are_full
returns-else-tables-eq128 c = rw (ne_eqb (length c.args.tables.now) 128 c.if-tables-eq128.false)
