-- A number as text. Assumes nothing.
use Rattle.std.specs.Prelude.{ℕ, ◌+◌, ◌-◌, ◌*◌, ◌^◌, ◌<◌, ◌⊎◌, Bool, true, false, cond, not, ◌&&◌, List, [], ◌∷◌, ◌≡◌, Option, Some, None, eqb, ltb, length, take, drop}
use Rattle.std.specs.Char.{digit_value}
use Rattle.std.proofs.Common.{arith, lt-ltb, le-ltb, ltb-true, ltb-false, refl, inl, inr}
use Rattle.std.proofs.lemmas.Str.Parse.{digit_from_value}
use Rattle.laws.specs.All.{all}
use Rattle.laws.specs.Same.{same}
use Rattle.laws.specs.Within.{Between}

-- what digits are worth in a base: each times the base to the power of its place, counted from the last
abbrev pub value : ℕ → List ℕ → ℕ
value base [] = 0
value base (c ∷ cs) = digit_value c * base ^ length cs + value base cs

abbrev pub is_digit : ℕ → ℕ → Bool
is_digit base c = ltb (digit_value c) base

-- one digit of the base or more, and nothing else
abbrev pub is_numeral : ℕ → List ℕ → Bool
is_numeral base text = not (eqb (length text) 0) && all (is_digit base) text

-- the number that a numeral is worth, where 32 bits hold it
unfoldable pub said_in : ℕ → List ℕ → Option ℕ
said_in base text = cond (is_numeral base text && ltb (value base text) 4294967296) (Some (value base text)) None

abbrev pub starts_with0x : List ℕ → Bool
starts_with0x text = same (take 2 text) (48 ∷ 120 ∷ [])

-- the number that a text says: in hexadecimal behind 0x, and else in decimal
abbrev pub number_in : List ℕ → Option ℕ
number_in text = cond (starts_with0x text) (said_in 16 (drop 2 text)) (said_in 10 text)

-- The outcome of `number`.
abbrev pub TellsNumber : List ℕ → Option ℕ → Type 0
TellsNumber text s = s ≡ number_in text

-- ---- laws: what each digit of the two bases is worth, and that there are no others

module _ (c : ℕ) where
  pub digit_decimal : Between 48 57 c → digit_value c ≡ c - 48
  digit_decimal b = rw (le-ltb c 48 (omega arith), lt-ltb c 58 (omega arith))

  pub digit_small : Between 97 102 c → digit_value c ≡ c - 87
  digit_small b = rw (le-ltb c 48 (omega arith), le-ltb c 58 (omega arith), le-ltb c 65 (omega arith), le-ltb c 91 (omega arith), le-ltb c 97 (omega arith), lt-ltb c 123 (omega arith))

  pub digit_capital : Between 65 70 c → digit_value c ≡ c - 55
  digit_capital b = rw (le-ltb c 48 (omega arith), le-ltb c 58 (omega arith), le-ltb c 65 (omega arith), lt-ltb c 91 (omega arith))

  pub only_decimal : is_digit 10 c ≡ true → Between 48 57 c
  only_decimal h = let r = digit_from_value c (ltb-true (digit_value c) 10 h) in omega (arith, r)

  pub only_hexadecimal : is_digit 16 c ≡ true → Between 48 57 c ⊎ (Between 97 102 c ⊎ Between 65 70 c)
  only_hexadecimal h = go (ltb c 48) refl (ltb c 58) refl (ltb c 65) refl (ltb c 91) refl (ltb c 97) refl (ltb c 123) refl (ltb-true (digit_value c) 16 h)
    where
      go : (t : Bool) → ltb c 48 ≡ t → (u : Bool) → ltb c 58 ≡ u → (v : Bool) → ltb c 65 ≡ v → (w : Bool) → ltb c 91 ≡ w → (x : Bool) → ltb c 97 ≡ x → (y : Bool) → ltb c 123 ≡ y
          → cond t 36 (cond u (c - 48) (cond v 36 (cond w (c - 55) (cond x 36 (cond y (c - 87) 36))))) < 16
          → Between 48 57 c ⊎ (Between 97 102 c ⊎ Between 65 70 c)
      go true _ _ _ _ _ _ _ _ _ _ _ b = absurd (omega (arith, b))
      go false t true u _ _ _ _ _ _ _ _ b = inl (omega (arith, ltb-false c 48 t, ltb-true c 58 u))
      go false _ false _ true _ _ _ _ _ _ _ b = absurd (omega (arith, b))
      go false _ false _ false v true _ _ _ _ _ b = inr (inr (omega (arith, ltb-false c 65 v, b)))
      go false _ false _ false _ false _ true _ _ _ b = absurd (omega (arith, b))
      go false _ false _ false _ false _ false x true _ b = inr (inl (omega (arith, ltb-false c 97 x, b)))
      go false _ false _ false _ false _ false _ false _ b = absurd (omega (arith, b))
