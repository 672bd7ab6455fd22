-- Digits read one behind the other, up to what 32 bits do not hold. Assumes nothing.
use Rattle.std.specs.Prelude.{ℕ, zero, suc, ◌+◌, ◌*◌, ◌^◌, ◌≤◌, ◌<◌, Bool, true, false, not, ◌&&◌, List, [], ◌∷◌, ◌++◌, ◌≡◌, Some, None, eqb, length, take}
use Rattle.std.specs.Char.{digit_value}
use Rattle.std.proofs.Math.Nat.{pow-zero, pow-le-pow_right, mul-le-mul_left}
use Rattle.std.proofs.Common.{pow-suc, add-mul, mul_assoc, add-one, arith, lt-ltb, le-ltb, ne_eqb, not-suc-le-zero, le_of_suc-le-suc, length-append, length-take, take_all}
use Rattle.std.proofs.Math.ListN.{get_or}
use Rattle.std.proofs.Math.Seq.{take-suc}
use Rattle.laws.specs.All.{all, all_pass}
use Rattle.laws.specs.Truth.{and_false}
use Rattle.text.specs.Number.{value, is_digit, said_in}

-- ---- one digit more

value_behind : (base : ℕ) (l : List ℕ) (c : ℕ) → value base (l ++ (c ∷ [])) ≡ value base l * base + digit_value c
value_behind base [] c = rw (pow-zero base) (omega arith)
value_behind base (x ∷ l) c =
    rw (length-append l (c ∷ []), add-one (length l), pow-suc base (length l), value_behind base l c, add-mul (digit_value x * base ^ length l) (value base l) base, mul_assoc (digit_value x) (base ^ length l) base) (omega arith)

-- the first digits are worth no more than all
value_take-le : (base : ℕ) → 1 ≤ base → (l : List ℕ) (i : ℕ) → value base (take i l) ≤ value base l
value_take-le base some l zero = omega arith
value_take-le base some [] (suc i) = omega arith
value_take-le base some (x ∷ l) (suc i) =
    omega (arith, value_take-le base some l i, mul-le-mul_left (digit_value x) (pow-le-pow_right {n = base} some {i = length (take i l)} {j = length l} (omega (arith, length-take i l))))

all_fails : (test : ℕ → Bool) (l : List ℕ) (i : ℕ) → i < length l → test (get_or l i 0) ≡ false → all test l ≡ false
all_fails test [] i h e = absurd (not-suc-le-zero h)
all_fails test (x ∷ l) zero h e = rw e
all_fails test (x ∷ l) (suc i) h e = rw (all_fails test l i (le_of_suc-le-suc h) e) (and_false (test x))

module _ (base : ℕ) (l : List ℕ) (i : ℕ) (h : i < length l) where
  value_of : value base (take (i + 1) l) ≡ value base (take i l) * base + digit_value (get_or l i 0)
  value_of = rw (add-one, take-suc l i 0) (value_behind base (take i l) (get_or l i 0))

  pub value_more : {v : ℕ} → v ≡ value base (take i l) → value base (take (i + 1) l) ≡ v * base + digit_value (get_or l i 0)
  value_more e = rw e value_of

  pub digits_more : digit_value (get_or l i 0) < base → all (is_digit base) (take i l) ≡ true → all (is_digit base) (take (i + 1) l) ≡ true
  digits_more d so_far = rw (all_pass (is_digit base) l i 0 h (lt-ltb _ _ d)) so_far

  -- ---- what is no number

  pub no_digit : base ≤ digit_value (get_or l i 0) → None ≡ said_in base l
  unfolding said_in
  no_digit d = rw (all_fails (is_digit base) l i h (le-ltb _ _ d), and_false (not (eqb (length l) 0)))

  pub too_large : {v : ℕ} → 1 ≤ base → v ≡ value base (take i l) → 4294967296 ≤ v * base + digit_value (get_or l i 0) → None ≡ said_in base l
  unfolding said_in
  too_large {v} some e large =
      let most : 4294967296 ≤ value base l = omega (arith, value_more e, value_take-le base some l (i + 1)) in
      rw (le-ltb (value base l) 4294967296 most, and_false (not (eqb (length l) 0) && all (is_digit base) l))

pub nothing : (base : ℕ) (l : List ℕ) → length l ≡ 0 → None ≡ said_in base l
unfolding said_in
nothing base [] h = cc
nothing base (x ∷ l) h = absurd (omega arith)

-- ---- and what is one

pub whole : (base : ℕ) (l : List ℕ) {i v : ℕ} → (length l ≡ 0 → ⊥) → length l ≤ i → all (is_digit base) (take i l) ≡ true → v ≡ value base (take i l) → v < 4294967296 → Some v ≡ said_in base l
unfolding said_in
whole base l {i} {v} some end digits e small =
    let same : take i l ≡ l = take_all i l end in
    let digits_l : all (is_digit base) l ≡ true = rw same at digits in
    let value_l : v ≡ value base l = rw same at e in
    rw (ne_eqb (length l) 0 some, digits_l, ← value_l, lt-ltb v 4294967296 small)
