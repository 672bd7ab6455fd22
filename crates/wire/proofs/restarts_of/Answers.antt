-- `wire::restarts_of` meets its contract: each arm of the match is a law of `restarts_of`. Assumes nothing.
use Rattle.std.proofs.Common.{sym, arith}
use Rattle.wire.specs.Kind.{absent_to_1, not_carried_to_63, present_64_65, not_carried_from_66}
use Rattle.wire.proofs.restarts_of.Goals as goal

pub returns-in-0 : goal.returns-in-0
returns-in-0 c = sym (absent_to_1 c.args.kind (omega arith))

pub returns-in-64 : goal.returns-in-64
returns-in-64 c = sym (present_64_65 c.args.kind (omega arith) (omega arith))

pub returns-in_default : goal.returns-in_default
returns-in_default c = sym (not_carried_to_63 c.args.kind (omega arith) (omega arith))

pub returns-in_default-2 : goal.returns-in_default-2
returns-in_default-2 c = sym (not_carried_from_66 c.args.kind (omega arith))
