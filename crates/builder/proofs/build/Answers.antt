-- `builder::build` meets its contract: the checks, and then the file. Assumes nothing.
use Rattle.std.proofs.Common.{◌≡◌, refl, sym, ap, arith, length}
use Rattle.std.proofs.lemmas.Result.{err_from_is_err_and}
use Rattle.replies.specs.Checks.{Passed, judged}
use Rattle.replies.specs.Output.{writes_refused}
use Rattle.builder.specs.Building.{buildable, building, checks, scan_small, whole_lawful}
use Rattle.builder.proofs.build.Goals as goal

pub returns-in_err-judge : goal.returns-in_err-judge
unfolding building
returns-in_err-judge c =
    let q = err_from_is_err_and c.from_residual.result c.from_residual.ensures.1 in
    let refused = sym c.in_err-judge.ensures in
    rw (q.1, q.2, refused) (writes_refused refl)

pub frame_of-requires : goal.frame_of-requires
frame_of-requires c = let b = buildable c.args.receiver.now c.args.area.now (sym c.in_ok-judge.ensures) in whole_lawful b.well b.whole

pub write_file-requires : goal.write_file-requires
write_file-requires c = omega (arith, ap length c.part-scan.ensures, scan_small (buildable c.args.receiver.now c.args.area.now (sym c.in_ok-judge.ensures)))

pub returns : goal.returns
unfolding building
returns c =
    let passed : judged (checks c.args.receiver.now c.args.area.now) ≡ Passed = sym c.in_ok-judge.ensures in
    rw passed (rw (c.part-scan.ensures, c.frame_of.ensures) at c.write_file.ensures)
