-- `builder::judge` meets its contract: the checks in their order; the flag tells whether the picture is whole. Assumes nothing.
use Rattle.std.proofs.Common.{sym}
use Rattle.std.proofs.lemmas.Result.{err_from_is_err_and}
use Rattle.laws.specs.Truth.{same, other}
use Rattle.replies.specs.Checks.{start, passes, fails, none_left}
use Rattle.state.specs.WellFormed.{known_well_formed, holds_inspected, not_inspected, whole_told}
use Rattle.builder.proofs.judge.Goals as goal

pub returns-in_err-inspect : goal.returns-in_err-inspect
returns-in_err-inspect c =
    let q = err_from_is_err_and c.from_residual.result c.from_residual.ensures.1 in
    let not = not_inspected c.args.receiver.now (sym c.in_err-inspect.ensures.inspects) in
    rw (q.1, q.2, not.1) (sym (fails start (rw not.0)))

pub returns-then-area-receiver : goal.returns-then-area-receiver
returns-then-area-receiver c =
    let formed = (holds_inspected c.args.receiver.now (sym c.in_ok-inspect.ensures.inspects)).0 in
    sym (fails (passes start (rw formed)) (other _ _ c.if-area-receiver.true))

pub returns-then-receiver-ne1 : goal.returns-then-receiver-ne1
returns-then-receiver-ne1 c =
    let formed = (holds_inspected c.args.receiver.now (sym c.in_ok-inspect.ensures.inspects)).0 in
    sym (fails (passes (passes start (rw formed)) (same _ _ c.if-area-receiver.false)) (rw (← whole_told (known_well_formed c.args.receiver.now formed)) (other _ _ c.if-receiver-ne1.true)))

pub returns : goal.returns
returns c =
    let formed = (holds_inspected c.args.receiver.now (sym c.in_ok-inspect.ensures.inspects)).0 in
    sym (none_left (passes (passes (passes start (rw formed)) (same _ _ c.if-area-receiver.false)) (rw (← whole_told (known_well_formed c.args.receiver.now formed)) (same _ _ c.if-receiver-ne1.false))))
