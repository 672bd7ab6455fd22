-- `wire::table_header::tables_at` meets its contract. Assumes nothing.
use Rattle.std.proofs.Common.{arith}
use Rattle.wire.specs.Tables.{tables_at}
use Rattle.wire.specs.Restart.{restart_end_small}
use Rattle.wire.proofs.table_header.tables_at.Goals as goal

pub overflow_add-result : goal.overflow_add-result
overflow_add-result c = omega (arith, restart_end_small c.args.payload.now)

pub returns-then-has_table_header : goal.returns-then-has_table_header
unfolding tables_at
returns-then-has_table_header c = rw (← c.has_table_header.ensures, c.if-has_table_header.true, ← c.restart_end.ensures)

pub returns-else-has_table_header : goal.returns-else-has_table_header
unfolding tables_at
returns-else-has_table_header c = rw (← c.has_table_header.ensures, c.if-has_table_header.false, ← c.restart_end-else-has_table_header.ensures) (omega arith)
