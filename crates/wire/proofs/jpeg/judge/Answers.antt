-- `wire::jpeg::judge` meets its contract: the three lists of checks, one after the other. Assumes nothing.
use Rattle.std.proofs.Common.{sym, ◌∙◌}
use Rattle.std.proofs.lemmas.Result.{err_from_is_err_and}
use Rattle.replies.specs.Checks.{refused_first, passed_first}
use Rattle.wire.specs.Reading.{main_checks, restart_checks}
use Rattle.wire.proofs.jpeg.judge.Goals as goal

pub returns-in_err-judge_main : goal.returns-in_err-judge_main
returns-in_err-judge_main c =
    let p = err_from_is_err_and c.from_residual.result c.from_residual.ensures.1 in
    rw (p.1, p.2) (sym (refused_first (main_checks c.args.payload.now) _ (sym c.in_err-judge_main.ensures)))

pub returns-in_err-judge_restart : goal.returns-in_err-judge_restart
returns-in_err-judge_restart c =
    let b = c.args.payload.now in
    let p = err_from_is_err_and c.from_residual-in_err-judge_restart.result c.from_residual-in_err-judge_restart.ensures.1 in
    rw (p.1, p.2) (sym (passed_first (main_checks b) _ (sym c.in_ok-judge_main.ensures) ∙ refused_first (restart_checks b) _ (sym c.in_err-judge_restart.ensures)))

pub returns : goal.returns
returns c =
    let b = c.args.payload.now in
    c.judge_tables.ensures ∙ sym (passed_first (main_checks b) _ (sym c.in_ok-judge_main.ensures) ∙ passed_first (restart_checks b) _ (sym c.in_ok-judge_restart.ensures))
