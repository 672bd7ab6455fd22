-- `wire::field::number_at` meets its contract: after i turns the number is that of the first i bytes. Assumes nothing.
use Rattle.std.proofs.Common.{◌^◌, ◌<◌, ◌≡◌}
use Rattle.wire.specs.Field.{field}
use Rattle.wire.proofs.field.number_at.Given as goal

abbrev pub invariant-loop-i : goal.invariant-loop-i
invariant-loop-i g l = record { said : l.number ≡ field l.s l.at l.i; small : l.number < 256 ^ l.i }
