-- `wire::table_source` meets its contract: each arm of the match is a law of `table_source`. Assumes nothing.
use Rattle.std.proofs.Common.{sym, arith}
use Rattle.wire.specs.TableSource.{reserved_0, made_to_99, reserved_to_127, kept_or_brought_to_254, always_brought_255, reserved_from_256}
use Rattle.wire.proofs.table_source.Goals as goal

pub returns-in-255 : goal.returns-in-255
returns-in-255 c = sym (always_brought_255 c.args.q c.in-255.is)

pub returns-in-1-to-50 : goal.returns-in-1-to-50
returns-in-1-to-50 c = sym (made_to_99 c.args.q (omega arith) (omega arith))

pub returns-in-128-to-254 : goal.returns-in-128-to-254
returns-in-128-to-254 c = sym (kept_or_brought_to_254 c.args.q (omega arith) (omega arith))

pub returns-in_default : goal.returns-in_default
returns-in_default c = sym (reserved_0 c.args.q (omega arith))

pub returns-in_default-2 : goal.returns-in_default-2
returns-in_default-2 c = sym (reserved_to_127 c.args.q (omega arith) (omega arith))

pub returns-in_default-3 : goal.returns-in_default-3
returns-in_default-3 c =
    let q = c.args.q in
    sym (reserved_from_256 q (omega arith))
