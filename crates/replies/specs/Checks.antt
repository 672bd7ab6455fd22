-- Checks in order: the first that fails gives the refusal. Assumes nothing.
use Rattle.std.specs.Prelude.{ℕ, Bool, true, false, not, List, [], ◌∷◌, ◌++◌, ◌≡◌, refl, drop, Result, Ok, Err}
use Rattle.std.proofs.Common.{sym, ◌∙◌, arith}
use Rattle.std.proofs.lemmas.Bool.{not-true}
use Rattle.laws.specs.All.{all}
use Rattle.laws.specs.Each.{Each}
use Rattle.laws.specs.Truth.{and_true}
use Rattle.laws.specs.Within.{within, is_none}
use Rattle.replies.specs.Reply
use Rattle.replies.specs.Refusal.{number}
use Rattle.replies.specs.declared.Refusal.{Refusal}

infix 68 ◌when◌
-- A check: the refusal that it gives when it fails, and whether it fails.
pub data Check : Type 0 where
  ◌when◌ : Refusal → Bool → Check

-- What a list of checks comes to, in their order: passed, or refused.
abbrev pub Judged : Type 0
Judged = Result Unit Refusal

abbrev pub Passed : Judged
Passed = Ok tt

unfoldable pub judged : List Check → Judged
judged [] = Passed
judged ((r when true) ∷ checks) = Err r
judged ((r when false) ∷ checks) = judged checks

-- ---- laws

-- a number other than 9 and 8, which a call gives for the receiver and the area that it is handed
abbrev pub neither : ℕ → Bool
neither n = not (within 8 9 n)

pub neither_9_nor_8 : {n : ℕ} → neither n ≡ true → (n ≡ Reply.not_well_formed → ⊥) × (n ≡ Reply.area_not_room → ⊥)
neither_9_nor_8 {n} e = let out = is_none 8 9 n (not-true (within 8 9 n) e) in (out 9 (omega arith), out 8 (omega arith))

-- all that is left to judge of some checks, since those in front have passed
pub record Past (checks left : List Check) : Type 0 where
  pub same : judged checks ≡ judged left

-- the first k of some checks have passed
abbrev pub PastFirst : ℕ → List Check → Type 0
PastFirst k checks = Past checks (drop k checks)

pub start : {checks : List Check} → Past checks checks
start = record { same = refl }

module _ {checks left : List Check} {r : Refusal} {b : Bool} (past : Past checks (r when b ∷ left)) where
  pub passes : b ≡ false → Past checks left
  unfolding judged
  passes e = record { same = past.same ∙ rw e }

  pub fails : b ≡ true → judged checks ≡ Err r
  unfolding judged
  fails e = past.same ∙ rw e

pub none_left : {checks : List Check} → Past checks [] → judged checks ≡ Passed
unfolding judged
none_left past = past.same

never_refused : {r : Refusal} → ◌≡◌ {A = Judged} Passed (Err r) → ⊥
never_refused e = let z : ◌≡◌ {A = ℕ} 0 1 = cc in omega arith

-- two lists of checks, one after the other
pub refused_first : {r : Refusal} (a b : List Check) → judged a ≡ Err r → judged (a ++ b) ≡ Err r
unfolding judged
refused_first [] b e = absurd (never_refused e)
refused_first ((m when true) ∷ a) b e = e
refused_first ((m when false) ∷ a) b e = refused_first a b e

pub passed_first : (a b : List Check) → judged a ≡ Passed → judged (a ++ b) ≡ judged b
unfolding judged
passed_first [] b e = refl
passed_first ((m when true) ∷ a) b e = absurd (never_refused (sym e))
passed_first ((m when false) ∷ a) b e = passed_first a b e

pub both_passed : (a b : List Check) → judged (a ++ b) ≡ Passed → (judged a ≡ Passed) × (judged b ≡ Passed)
unfolding judged
both_passed [] b e = (refl, e)
both_passed ((m when true) ∷ a) b e = absurd (never_refused (sym e))
both_passed ((m when false) ∷ a) b e = both_passed a b e

-- where all pass, none fails
abbrev pub Holds : Check → Type 0
Holds (n when b) = b ≡ false

pub all_hold : (checks : List Check) → judged checks ≡ Passed → Each Holds checks
unfolding judged
all_hold [] e = tt
all_hold ((n when true) ∷ checks) e = absurd (never_refused (sym e))
all_hold ((n when false) ∷ checks) e = (refl, all_hold checks e)

-- a test that the number of each check passes is passed by the number of a refusal
abbrev pub number_of : Check → ℕ
number_of (r when b) = number r

abbrev pub numbered : (ℕ → Bool) → List Check → Bool
numbered test checks = all (λ (c : Check). test (number_of c)) checks

pub refused_by : (test : ℕ → Bool) (checks : List Check) {r : Refusal} → numbered test checks ≡ true → judged checks ≡ Err r → test (number r) ≡ true
unfolding judged
refused_by test [] a e = absurd (never_refused e)
refused_by test ((m when true) ∷ checks) {r} a e = let same : m ≡ r = cc in rw same at (and_true (test (number m)) (numbered test checks) a).0
refused_by test ((m when false) ∷ checks) a e = refused_by test checks (and_true (test (number m)) (numbered test checks) a).1 e
