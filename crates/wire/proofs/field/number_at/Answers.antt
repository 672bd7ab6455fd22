-- `wire::field::number_at` meets its contract: a byte more makes the number 256 times as large. Assumes nothing.
use Rattle.std.proofs.Common.{◌^◌, ◌≤◌, pow-suc, add-one, arith}
use Rattle.std.proofs.Math.Nat.{pow-le-pow_right}
use Rattle.wire.specs.Field.{field}
use Rattle.wire.proofs.field.number_at.Goals as goal

pub overflow_mul-number : goal.overflow_mul-number
overflow_mul-number g c =
    let i = c.loop-i.i in
    let few : 256 ^ i ≤ 256 ^ 3 = pow-le-pow_right {n = 256} (omega arith) {i = i} {j = 3} (omega arith) in
    omega (arith, few, c.loop-i.invariant.small)

pub overflow_add-number : goal.overflow_add-number
overflow_add-number g c =
    let i = c.loop-i.i in
    let few : 256 ^ i ≤ 256 ^ 3 = pow-le-pow_right {n = 256} (omega arith) {i = i} {j = 3} (omega arith) in
    omega (arith, few, c.loop-i.invariant.small, c.from.ensures, c.byte_at.type_inv)

pub loop-i-preserved : goal.loop-i-preserved
unfolding field
loop-i-preserved g c =
    let i = c.loop-i.i in
    record {
      said = rw (add-one i, c.loop-i.invariant.said, c.from.ensures, c.byte_at.ensures);
      small = rw (add-one i, pow-suc 256 i) (omega (arith, c.loop-i.invariant.small, c.from.ensures, c.byte_at.type_inv));
    }
