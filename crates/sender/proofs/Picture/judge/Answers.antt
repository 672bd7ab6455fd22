-- `sender::Picture::judge` meets its contract: the two lists of checks, one after the other. Assumes nothing.
use Rattle.std.proofs.Common.{sym, ◌∙◌}
use Rattle.std.proofs.lemmas.Result.{err_from_is_err_and}
use Rattle.replies.specs.Checks.{refused_first, passed_first}
use Rattle.sender.specs.Fit.{fits}
use Rattle.sender.specs.Picture.{contents}
use Rattle.sender.proofs.Picture.judge.Goals as goal

pub returns-in_err-judge_limits : goal.returns-in_err-judge_limits
returns-in_err-judge_limits c =
    let p = err_from_is_err_and c.from_residual.result c.from_residual.ensures.1 in
    rw (p.1, p.2) (sym (refused_first _ _ (sym c.in_err-judge_limits.ensures)))

pub judge_cuts-requires : goal.judge_cuts-requires
judge_cuts-requires c = fits (contents c.args.self) c.args.size (sym c.in_ok-judge_limits.ensures)

pub returns : goal.returns
returns c = c.judge_cuts.ensures ∙ sym (passed_first _ _ (sym c.in_ok-judge_limits.ensures))
