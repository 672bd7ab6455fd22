-- The name of a picture's file. Assumes nothing.
use Rattle.std.specs.Prelude.{ℕ, ◌-◌, ◌^◌, ◌≤◌, ◌<◌, cond, List, [], ◌∷◌, ◌++◌, ◌≡◌, Option, Some, None, IfSome, leb, length, take, drop, replicate}
use Rattle.std.proofs.Common.{sym, ◌∙◌, zero-add, arith, leb-true, leb-false, le-leb, take_all}
use Rattle.std.proofs.Math.Nat.{pow-le-pow_right}
use Rattle.std.proofs.lemmas.Bool.{lt-leb}
use Rattle.std.proofs.lemmas.List.{length-replicate}
use Rattle.io.specs.Digits.{last_digits, IsDigitCount}
use Rattle.laws.specs.Lists.{drop_replicate}
use Rattle.laws.specs.Put.{PutsUpTo}
use Rattle.laws.specs.Truth.{split}
use Rattle.slices.specs.Slices.{put_at, put_fits, put_not}

-- `.jpg`
abbrev pub ending : List ℕ
ending = 46 ∷ 106 ∷ 112 ∷ 103 ∷ []

-- a number's k decimal digits, with zeros in front where that is fewer than six
abbrev pub six_or_more : ℕ → ℕ → List ℕ
six_or_more n k = replicate (6 - k) 48 ++ last_digits 10 k n

abbrev pub file_name : List ℕ → ℕ → ℕ → List ℕ
file_name prefix n k = prefix ++ (six_or_more n k ++ ending)

-- The outcome of `file_name`: the name is the front of the output, and its length is answered; where it does not fit, there is no
-- answer, and the output is as it was.
pub record Names (prefix : List ℕ) (n : ℕ) (before : List ℕ) (answer : Option ℕ) (after : List ℕ) : Type 0 where
  -- how many digits the number has
  pub k : ℕ
  pub fewest : IsDigitCount 10 1 n k
  pub lent : after ≡ put_at before 0 (file_name prefix n k)
  pub told : answer ≡ cond (leb (length (file_name prefix n k)) (length before)) (Some (length (file_name prefix n k))) None

-- ---- laws

pub six_from : (k : ℕ) → take {A = ℕ} 6 (drop k (48 ∷ 48 ∷ 48 ∷ 48 ∷ 48 ∷ 48 ∷ [])) ≡ replicate (6 - k) 48
six_from k = rw (drop_replicate k 6 48) (take_all 6 (replicate (6 - k) 48) (rw length-replicate (omega arith)))

-- The name that is put is the outcome where it fits, and nothing where it does not.
pub named : {prefix before after : List ℕ} {n k answer : ℕ} → IsDigitCount 10 1 n k → PutsUpTo before 0 (file_name prefix n k) after answer → length (file_name prefix n k) ≤ length before → Names prefix n before (Some answer) after
named {prefix} {before} {after} {n} {k} {answer} few p h = record {
  k = k;
  fewest = few;
  lent = p.puts.same ∙ sym (put_fits before 0 (file_name prefix n k) (omega arith));
  told = rw (p.next, zero-add (length (file_name prefix n k)), le-leb (length (file_name prefix n k)) (length before) h);
}

pub not_named : {prefix before : List ℕ} {n k : ℕ} → IsDigitCount 10 1 n k → length before < length (file_name prefix n k) → Names prefix n before None before
not_named {prefix} {before} {n} {k} few h = record {
  k = k;
  fewest = few;
  lent = sym (put_not before 0 (file_name prefix n k) (omega arith));
  told = rw (lt-leb (length (file_name prefix n k)) (length before) h);
}

-- A number has no more digits than hold it, and so one count of them.
pub at_most : {n k : ℕ} (j : ℕ) → IsDigitCount 10 1 n k → 1 ≤ j → n < 10 ^ j → k ≤ j
at_most {n} {k} j few h g =
    split (leb k j)
    (λ t. leb-true k j t)
    (λ t. let more = leb-false k j t in absurd (omega (arith, few.2 (omega arith), pow-le-pow_right {n = 10} (omega arith) {i = j} {j = k - 1} (omega arith))))

fewest_one : {n k m : ℕ} → IsDigitCount 10 1 n k → IsDigitCount 10 1 n m → k ≡ m
fewest_one {n} {k} {m} a b = omega (arith, at_most m a b.0 b.1, at_most k b a.0 a.1)

-- Nothing in the outcome is left open.
pub names_determined : {prefix before : List ℕ} {n : ℕ} {a a' : Option ℕ} {x x' : List ℕ} → Names prefix n before a x → Names prefix n before a' x' → (a ≡ a') × (x ≡ x')
names_determined p q = let e = fewest_one p.fewest q.fewest in (p.told ∙ rw e (sym q.told), p.lent ∙ rw e (sym q.lent))

-- What is answered is a place in the output.
pub name_fits : {prefix before after : List ℕ} {n : ℕ} {answer : Option ℕ} → Names prefix n before answer after → IfSome answer (λ a. a ≤ length before)
name_fits {prefix} {before} {after} {n} {answer} p =
    let size = length (file_name prefix n p.k) in
    rw p.told (split (leb size (length before)) (λ t. rw t (leb-true size (length before) t)) (λ t. rw t tt))
