-- `tables::made_entry` meets its contract. What is not above `most` has a product of at most 25,549, which fits; what is above it has a
-- larger one, and is held at 255. Assumes nothing.
use Rattle.std.proofs.Common.{ℕ, ◌*◌, ◌/◌, ◌≤◌, ◌<◌, ◌≡◌, arith}
use Rattle.std.proofs.Math.Nat.{le-div_iff_mul-le, div-lt_iff_lt-mul}
use Rattle.tables.specs.Quantiser.{made}
use Rattle.tables.proofs.made_entry.Goals as goal

small : (v scale most : ℕ) → 0 < scale → most ≡ 25549 / scale → v ≤ most → v * scale ≤ 25549
small v scale most h e l = (le-div_iff_mul-le h).0 (let g : v ≤ 25549 / scale = omega arith in g)

large : (v scale most : ℕ) → 0 < scale → most ≡ 25549 / scale → most < v → 25549 < v * scale
large v scale most h e l = (div-lt_iff_lt-mul h).0 (let g : 25549 / scale < v = omega arith in g)

pub returns-then-most-v : goal.returns-then-most-v
unfolding made
returns-then-most-v c = omega (arith, large c.args.v c.args.scale c.args.most c.requires.0 c.requires.1 c.if-most-v.true)

pub returns-else-most-v : goal.returns-else-most-v
unfolding made
returns-else-most-v c = omega (arith, small c.args.v c.args.scale c.args.most c.requires.0 c.requires.1 c.if-most-v.false, c.max.ensures)
