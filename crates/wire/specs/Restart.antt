-- The restart header, behind the main header of types with restart intervals: RFC 2435 section 3.1.7. Assumes nothing.
use Rattle.std.specs.Prelude.{ℕ, ◌+◌, ◌≤◌, Bool, true, false, cond, List, ◌≡◌}
use Rattle.std.proofs.Common.{arith}
use Rattle.wire.specs.Field.{field}
use Rattle.wire.specs.Kind.{restarts_of, are_present}
use Rattle.wire.specs.Main.{main, main_end}

--      0                   1                   2                   3
--      0 1 2 3 4 5 6 7 8 9 0 1 2 3 4 5 6 7 8 9 0 1 2 3 4 5 6 7 8 9 0 1
--     +-------------------------------+-+-+---------------------------+
--   8 |           interval            |F|L|           count           |
--     +-------------------------------+-+-+---------------------------+
abbrev pub has_restart : List ℕ → Bool
has_restart b = are_present (restarts_of (main b).kind)

unfoldable pub interval : List ℕ → ℕ
interval b = cond (has_restart b) (field b main_end 2) 0

unfoldable pub restart_end : List ℕ → ℕ
restart_end b = main_end + cond (has_restart b) 4 0

-- ---- laws

pub restart_end_small : (b : List ℕ) → restart_end b ≤ 12
unfolding restart_end
restart_end_small b = go (has_restart b)
  where
    go : (t : Bool) → main_end + cond t 4 0 ≤ 12
    go true = omega arith
    go false = omega arith

module _ (b : List ℕ) where
  pub interval_read : has_restart b ≡ true → interval b ≡ field b main_end 2
  unfolding interval
  interval_read e = rw e

  pub interval_none : has_restart b ≡ false → interval b ≡ 0
  unfolding interval
  interval_none e = rw e
