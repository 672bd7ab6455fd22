-- Numbers in a list of bytes, most significant byte first. Assumes nothing.
use Rattle.std.specs.Prelude.{ℕ, zero, suc, ◌+◌, ◌*◌, ◌^◌, ◌≤◌, ◌<◌, List, [], ◌∷◌, ◌≡◌, length, get_or}
use Rattle.std.proofs.Common.{add-zero, add_assoc, pow-suc, arith}
use Rattle.std.proofs.Math.ListN.{get_or-eq_default}
use Rattle.laws.specs.Each.{Each}

-- the byte at a place, and 0 past the end: a length that must hold is a check of its own
abbrev pub byte : List ℕ → ℕ → ℕ
byte l at = get_or l at 0

-- the number in n bytes from a place on
unfoldable pub field : List ℕ → ℕ → ℕ → ℕ
field l at zero = 0
field l at (suc n) = field l at n * 256 + byte l (at + n)

-- ---- laws

module _ (l : List ℕ) (at : ℕ) where
  pub byte_past : length l ≤ at → byte l at ≡ 0
  byte_past h = get_or-eq_default l 0 h

  pub field_2 : field l at 2 ≡ byte l at * 256 + byte l (at + 1)
  unfolding field
  field_2 = rw (add-zero at) (omega arith)

  pub field_3 : field l at 3 ≡ byte l at * 65536 + byte l (at + 1) * 256 + byte l (at + 2)
  unfolding field
  field_3 = rw (add-zero at) (omega arith)

pub field_4 : (l : List ℕ) (at : ℕ) → field l at 4 ≡ field l at 2 * 65536 + field l (at + 2) 2
unfolding field
field_4 l at = rw (add-zero at, add-zero (at + 2), add_assoc at 2 1) (omega arith)

-- what the bytes of a slice are, and what numbers they make
abbrev pub Bytes : List ℕ → Type 0
Bytes l = Each (λ (v : ℕ). v < 256) l

pub byte_small : (l : List ℕ) (at : ℕ) → Bytes l → byte l at < 256
byte_small [] at a = omega arith
byte_small (x ∷ l) zero a = a.0
byte_small (x ∷ l) (suc at) a = byte_small l at a.1

pub field_small : (l : List ℕ) (at n : ℕ) → Bytes l → field l at n < 256 ^ n
unfolding field
field_small l at zero a = omega arith
field_small l at (suc n) a = omega (arith, pow-suc 256 n, field_small l at n a, byte_small l (at + n) a)
