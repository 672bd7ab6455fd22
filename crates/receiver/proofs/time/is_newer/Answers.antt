-- `receiver::time::is_newer` meets its contract. Assumes nothing.
use Rattle.std.specs.Ordering.{is_le, is_lt, nat_cmp}
use Rattle.std.proofs.Common.{◌≡◌, ℕ, ◌&&◌, ap, ◌∙◌, ◌-◌, ◌^◌, arith, rules}
use Rattle.std.proofs.lemmas.Bool.Decides.{nat_tests}
use Rattle.laws.specs.Within.{within}
use Rattle.receiver.specs.Time.{ahead_wraps}
use Rattle.receiver.proofs.time.is_newer.Goals as goal

-- what the range tells of a difference
in_range : (d : ℕ) → (is_le (nat_cmp 1 d) && is_lt (nat_cmp d (2 ^ 31))) ≡ within 1 (2 ^ 31 - 1) d
unfolding within
in_range d = grind (arith, nat_tests)

pub returns : goal.returns
returns c = c.contains.ensures.value ∙ in_range _ ∙ ap (within 1 (2 ^ 31 - 1)) (ahead_wraps c.args.t c.args.h (search rules))
