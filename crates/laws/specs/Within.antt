-- Whether a number lies within two others, both of them included. Assumes nothing.
use Rattle.std.specs.Prelude.{ℕ, ◌≤◌, ◌<◌, Bool, true, false, ◌&&◌, ◌≡◌, leb}
use borrow.Author.Tests.{leb-true, le-leb, lt-leb}
use Rattle.laws.specs.Truth.{never_both, and_true, and_false}

unfoldable pub within : ℕ → ℕ → ℕ → Bool
within low high n = leb low n && leb n high

-- the same, as what has to hold
abbrev pub Between : ℕ → ℕ → ℕ → Type 0
Between low high n = (low ≤ n) × (n ≤ high)

-- ---- laws

module _ (low high n : ℕ) where
  pub is_within : low ≤ n → n ≤ high → within low high n ≡ true
  unfolding within
  is_within a b = rw (le-leb low n a, le-leb n high b)

  pub is_under : n < low → within low high n ≡ false
  unfolding within
  is_under h = rw (lt-leb low n h)

  pub is_over : high < n → within low high n ≡ false
  unfolding within
  is_over h = rw (lt-leb n high h) (and_false (leb low n))

  -- what does not lie within is none of those that do
  pub is_none : within low high n ≡ false → (m : ℕ) → Between low high m → n ≡ m → ⊥
  is_none out m b e = never_both (is_within (rw e b.0) (rw e b.1)) out

  pub between : within low high n ≡ true → Between low high n
  unfolding within
  between e = let t = and_true (leb low n) (leb n high) e in (leb-true low n t.0, leb-true n high t.1)
