-- `wire::table_header::tables_length` meets its contract. Assumes nothing.
use Rattle.std.proofs.Common.{arith}
use Rattle.wire.specs.Tables.{tables_length}
use Rattle.wire.specs.Restart.{restart_end_small}
use Rattle.wire.proofs.table_header.tables_length.Goals as goal

pub overflow_add-restart_end : goal.overflow_add-restart_end
overflow_add-restart_end c = omega (arith, restart_end_small c.args.payload.now)

pub number_at-requires : goal.number_at-requires
number_at-requires c = omega (arith, restart_end_small c.args.payload.now)

pub returns-then-has_table_header : goal.returns-then-has_table_header
unfolding tables_length
returns-then-has_table_header c = rw (← c.has_table_header.ensures, c.if-has_table_header.true, ← c.restart_end.ensures) c.number_at.ensures

pub returns-else-has_table_header : goal.returns-else-has_table_header
unfolding tables_length
returns-else-has_table_header c = rw (← c.has_table_header.ensures, c.if-has_table_header.false)
