-- `sender::write::put_number` meets its contract: the last bytes of a number spell it. Assumes nothing.
use Rattle.std.proofs.Common.{◌≡◌, ℕ, zero, suc, ◌-◌, ◌/◌, ◌≤◌, take, drop, refl, arith}
use Rattle.std.specs.Int.{w32, to_be_bytes}
use Rattle.laws.specs.Spelled.{spelled}
use Rattle.sender.proofs.write.put_number.Goals as goal

last : (n v : ℕ) → n ≤ 4 → take (4 - (4 - n)) (drop (4 - n) (to_be_bytes w32 v)) ≡ spelled n v
unfolding spelled
last zero v h = refl
last (suc zero) v h = refl
last (suc (suc zero)) v h = refl
last (suc (suc (suc zero))) v h =
    let third : v / 256 / 256 ≡ v / 65536 = omega arith in
    rw third
last (suc (suc (suc (suc zero)))) v h =
    let second : v / 256 / 256 / 256 ≡ v / 16777216 = omega arith in
    let third : v / 256 / 256 ≡ v / 65536 = omega arith in
    rw (second, third)
last (suc (suc (suc (suc (suc n))))) v h = absurd (omega arith)

pub returns : goal.returns
returns g c = rw (← last g.row.N c.args.v c.requires.few, ← c.to_be_bytes.ensures) c.put_bytes.ensures
