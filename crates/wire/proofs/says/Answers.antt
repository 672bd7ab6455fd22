-- `wire::says` meets its contract. Assumes nothing.
use Rattle.std.proofs.Common.{arith}
use Rattle.wire.specs.Tables.{scan_at, tables_at_small}
use Rattle.wire.specs.Reading.{said}
use Rattle.wire.proofs.says.Goals as goal

pub overflow_add-scan_at : goal.overflow_add-scan_at
overflow_add-scan_at c = omega (arith, tables_at_small c.args.payload.now)

pub overflow_add-result : goal.overflow_add-result
overflow_add-result c = omega (arith, tables_at_small c.args.payload.now)

pub overflow_add-result-2 : goal.overflow_add-result-2
overflow_add-result-2 c = omega (arith, tables_at_small c.args.payload.now)

pub overflow_sub-result : goal.overflow_sub-result
unfolding scan_at
overflow_sub-result c = omega (arith, c.requires.payload_in_bounds)

pub returns : goal.returns
unfolding said scan_at
returns c = rw (c.header.ensures, c.number_at.ensures, c.number_at-2.ensures, c.from.ensures, c.byte_at.ensures, c.tables_length-tables_length.ensures, c.tables_at-tables_at.ensures, c.requires.rest.place, c.requires.rest.bytes)
