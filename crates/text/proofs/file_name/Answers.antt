-- `text::file_name` meets its contract: the parts that are measured and put are those of the name, and 64 bits hold no number of more than
-- 20 digits. Assumes nothing.
use Rattle.std.proofs.Common.{ℕ, ◌+◌, ◌-◌, List, ◌≡◌, ◌∙◌, arith, length, take, drop, replicate, [], ◌∷◌, length-append}
use Rattle.io.specs.Digits.{last_digits}
use Rattle.text.specs.FileName.{file_name, six_from, named, not_named}
use Rattle.text.proofs.file_name.Goals as goal

filled : (k : ℕ) (zeros : List ℕ) → zeros ≡ take 6 (drop k (48 ∷ 48 ∷ 48 ∷ 48 ∷ 48 ∷ 48 ∷ [])) → zeros ≡ replicate (6 - k) 48
filled k zeros e = e ∙ six_from k

long : (prefix : List ℕ) (n k : ℕ) (zeros digits : List ℕ) → zeros ≡ replicate (6 - k) 48 → digits ≡ last_digits 10 k n → length digits ≡ k → length (file_name prefix n k) ≡ length prefix + length zeros + k + 4
long prefix n k zeros digits f d l = rw (← f, ← d) (simp length-append (omega arith))

pub returns-then-out-prefix : goal.returns-then-out-prefix
returns-then-out-prefix c =
    let f = filled c.decimal-k.result c.part-zeros.result.now c.part-zeros.ensures in
    let l = long c.args.prefix.now c.args.number c.decimal-k.result c.part-zeros.result.now (take c.decimal-k.result c.decimal-k.new.out) f c.decimal-k.ensures.digits (omega arith) in
    not_named c.decimal-k.ensures.len (omega (arith, l))

pub returns-else-out-prefix : goal.returns-else-out-prefix
returns-else-out-prefix c =
    let f = filled c.decimal-k.result c.part-zeros.result.now c.part-zeros.ensures in
    let l = long c.args.prefix.now c.args.number c.decimal-k.result c.part-zeros.result.now (take c.decimal-k.result c.decimal-k.new.out) f c.decimal-k.ensures.digits (omega arith) in
    named c.decimal-k.ensures.len (rw (f, c.decimal-k.ensures.digits) at c.put_name.ensures) (omega (arith, l))
