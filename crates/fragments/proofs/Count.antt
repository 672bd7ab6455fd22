-- The first of 64 places, and those behind them, by a count that may be any number. Assumes nothing.
use Prim.Native.Nat.{ℕ, min}
use mathlib.Core.List.{List}
use mathlib.Core.Path.{◌≡◌, sym, ap, ◌∙◌}
use native.Mathlib.Omega.{arith}
use borrow.Author.Tests.{ltb-true, ltb-false}
use lib.Dec.{ltb}
use lib.ListN.{length, take, drop, drop_of_length-le}
use lib.Seq.{take_all}
use Rattle.laws.specs.Truth.{split}
use Rattle.fragments.specs.declared.Fragment.{Fragment}

module _ {n : ℕ} (count : ℕ) (l : List Fragment) (long : length l ≡ 64) (e : n ≡ min count 64) where
  pub first_of_64 : take n l ≡ take count l
  first_of_64 = split (ltb count 64)
      (λ t. let b = ltb-true count 64 t in let same : n ≡ count = omega arith in ap (λ (k : ℕ). take k l) same)
      (λ t. let b = ltb-false count 64 t in take_all n l (omega arith) ∙ sym (take_all count l (omega arith)))

  pub rest_of_64 : drop n l ≡ drop count l
  rest_of_64 = split (ltb count 64)
      (λ t. let b = ltb-true count 64 t in let same : n ≡ count = omega arith in ap (λ (k : ℕ). drop k l) same)
      (λ t. let b = ltb-false count 64 t in drop_of_length-le l {i = n} (omega arith) ∙ sym (drop_of_length-le l {i = count} (omega arith)))
