-- Which of two time stamps is the newer. Assumes nothing.
use Rattle.std.specs.Prelude.{◌≡◌, ℕ, ◌+◌, ◌-◌, ◌%◌, ◌^◌, ◌<◌, ◌≤◌, Bool, true, false, ◌==◌, ◌≢◌, nat_le, nat_lt}
use native.Mathlib.Omega.{arith}
use Rattle.std.proofs.Common.{leb-false, le-leb, eqb-true}
use Rattle.std.proofs.lemmas.Bool.{lt-leb, eqb-false}
use Rattle.std.proofs.Math.Dec.{leb-suc-suc}
use Rattle.laws.specs.Truth.{split, never_both}
use Rattle.laws.specs.Within.{within, is_within, is_under}

-- How far t is ahead of h: the difference modulo 2^32.
unfoldable pub ahead : ℕ → ℕ → ℕ
ahead t h = (t + 2 ^ 32 - h) % 2 ^ 32

-- t is newer than h where it is 1 to 2^31 - 1 ahead
abbrev pub is_newer : ℕ → ℕ → Bool
is_newer t h = within 1 (2 ^ 31 - 1) (ahead t h)

-- it is older, or exactly 2^31 away
abbrev pub is_behind : ℕ → ℕ → Bool
is_behind t h = nat_le (2 ^ 31) (ahead t h)

-- ---- laws

module _ (t h : ℕ) (small : h < 2 ^ 32) where
  -- a number that, with h, comes to t
  pub ahead_by : (d : ℕ) → d < 2 ^ 32 → (d + h) % 2 ^ 32 ≡ t → d ≡ ahead t h
  unfolding ahead
  ahead_by d less e = omega arith

  -- as 32 bits wrap it
  pub ahead_wraps : (t + (2 ^ 32 - h)) % 2 ^ 32 ≡ ahead t h
  unfolding ahead
  ahead_wraps = omega arith

-- from 1 on, a difference is that of a newer time stamp where it is less than 2^31
pub newer_from_1 : (d : ℕ) → 1 ≤ d → nat_lt d (2 ^ 31) ≡ within 1 (2 ^ 31 - 1) d
unfolding within
newer_from_1 d h = rw (le-leb 1 d h) (leb-suc-suc d (2 ^ 31 - 1))

module _ (t : ℕ) where
  ahead_none : ahead t t ≡ 0
  unfolding ahead
  ahead_none = omega arith

  -- no time stamp is newer or older than itself
  pub not_newer : is_newer t t ≡ false
  not_newer = rw ahead_none (is_under 1 (2 ^ 31 - 1) 0 (omega arith))

  pub not_behind : is_behind t t ≡ false
  not_behind = rw ahead_none (lt-leb (2 ^ 31) 0 (omega arith))

pub newer_differs : (t h : ℕ) → is_newer t h ≡ true → h ≢ t
newer_differs t h newer e = never_both (rw e at newer) (not_newer t)

-- and one that is neither the other nor newer is behind it
pub behind_else : (t h : ℕ) → t < 2 ^ 32 → h < 2 ^ 32 → (t ≢ h) → is_newer t h ≡ false → is_behind t h ≡ true
unfolding ahead
behind_else t h a b differs older = split (is_behind t h) (λ e. e)
    (λ e. absurd (never_both (is_within 1 (2 ^ 31 - 1) (ahead t h) some (let less = leb-false (2 ^ 31) (ahead t h) e in omega arith)) older))
  where
    some : 1 ≤ ahead t h
    some = split (ahead t h == 0) (λ e. absurd (differs (let z = eqb-true (ahead t h) 0 e in omega arith))) (λ e. let z = eqb-false (ahead t h) 0 e in omega arith)
