-- Numbers joined bit by bit: none is set exactly where none was in either. Assumes nothing.
use Prim.Native.Nat.{ℕ}
use mathlib.Core.Bool.{true, ◌&&◌}
use mathlib.Core.Path.{◌≡◌}
use native.Mathlib.Omega.{arith}
use borrow.Author.Tests.{eq-eqb, eqb-true}
use lib.Bits.{bit_or, or_add_and, and_le_l, and_le_r}
use lib.Dec.{eqb}
use Rattle.laws.specs.Truth.{and_true, same_test}
use Rattle.fragments.specs.Array.{is_nothing}
use Rattle.fragments.specs.Shared.{alike}
use Rattle.fragments.specs.declared.Fragment.{Fragment}

pub none_set : (a b : ℕ) → eqb (bit_or a b) 0 ≡ (eqb a 0 && eqb b 0)
none_set a b = same_test (eqb (bit_or a b) 0) (eqb a 0 && eqb b 0) there back
  where
    there : eqb (bit_or a b) 0 ≡ true → (eqb a 0 && eqb b 0) ≡ true
    there e =
        let z = eqb-true (bit_or a b) 0 e in
        let sum = or_add_and a b in
        rw (eq-eqb a 0 (omega (arith, z, sum, and_le_r a b)), eq-eqb b 0 (omega (arith, z, sum, and_le_l a b)))

    back : (eqb a 0 && eqb b 0) ≡ true → eqb (bit_or a b) 0 ≡ true
    back e =
        let t = and_true (eqb a 0) (eqb b 0) e in
        eq-eqb (bit_or a b) 0 (omega (arith, eqb-true a 0 t.0, eqb-true b 0 t.1, or_add_and a b))

-- and in no number of a fragment, where it is none
pub no_bits : (f : Fragment) → eqb (bit_or (bit_or f.offset f.length) f.marker) 0 ≡ is_nothing f
unfolding alike
no_bits f = rw (none_set (bit_or f.offset f.length) f.marker, none_set f.offset f.length)
