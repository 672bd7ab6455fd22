-- `kept::is_blank` meets its contract: the array is that of as many zeros where each entry is 0. Assumes nothing.
use lib.Pointwise.{pointwise}
use Rattle.std.specs.Prelude.{ℕ, List, [], ◌∷◌, ◌≡◌, refl, eqb, length, replicate}
use Rattle.std.proofs.Common.{◌∙◌, arith}
use Rattle.laws.specs.All.{all}
use Rattle.wire.specs.Tables.{is_zero}
use Rattle.kept.proofs.is_blank.Goals as goal

zeros : (l : List ℕ) → pointwise eqb l (replicate (length l) 0) ≡ all is_zero l
zeros [] = refl
zeros (x ∷ l) = rw (zeros l) refl

pub returns : goal.returns
returns c =
    let t = c.args.tables.now in
    let long : length t ≡ 128 = omega arith in
    let same : pointwise eqb t (replicate 128 0) ≡ all is_zero t = rw long at (zeros t) in
    c.eq.ensures ∙ same
