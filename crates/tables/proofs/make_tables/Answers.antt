-- `tables::make_tables` meets its contract: each arm of the match is a law of `tables_for`. Assumes nothing.
use Rattle.std.proofs.Common.{refl, arith}
use Rattle.replies.specs.Output.{writes_refused}
use Rattle.tables.specs.MakeTables.{tables_to_50, tables_from_51, no_tables_under_1, no_tables_over_99}
use Rattle.tables.proofs.make_tables.Goals as goal

pub returns-in-1-to-50 : goal.returns-in-1-to-50
returns-in-1-to-50 c = rw (tables_to_50 c.args.q (omega arith) (omega arith)) c.write_scaled.ensures

pub returns-in-51-to-99 : goal.returns-in-51-to-99
returns-in-51-to-99 c = rw (tables_from_51 c.args.q (omega arith) (omega arith)) c.write_scaled-in-51-to-99.ensures

pub returns-in_default : goal.returns-in_default
returns-in_default c = rw (no_tables_under_1 c.args.q (omega arith)) (writes_refused refl)

pub returns-in_default-2 : goal.returns-in_default-2
returns-in_default-2 c = rw (no_tables_over_99 c.args.q (omega arith)) (writes_refused refl)
