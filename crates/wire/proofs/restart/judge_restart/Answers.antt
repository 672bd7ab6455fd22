-- `wire::restart::judge_restart` meets its contract: each test of the code decides the next check of the list. Assumes nothing.
use Rattle.std.proofs.Common.{lt-ltb, le-ltb, eq-eqb, ne_eqb, sym, ◌∙◌}
use Rattle.replies.specs.Checks.{PastFirst, start, passes, fails, none_left}
use Rattle.wire.specs.Reading.{restart_checks}
use Rattle.wire.specs.Restart.{interval}
use Rattle.wire.proofs.restart.judge_restart.Goals as goal
use Rattle.wire.proofs.restart.judge_restart.Goals.{else-has_restart-via-then-has_restart+else-interval-eq0, else-has_restart-via-else-has_restart}

pub returns-then-payload-restart_end : goal.returns-then-payload-restart_end
returns-then-payload-restart_end c = sym (fails start (lt-ltb _ _ (rw c.restart_end.ensures at c.if-payload-restart_end.true)))

pub returns-then-interval-eq0 : goal.returns-then-interval-eq0
returns-then-interval-eq0 c =
    let b = c.args.payload.now in
    let passed-1 : PastFirst 1 (restart_checks b) = passes start (le-ltb _ _ (rw c.restart_end.ensures at c.if-payload-restart_end.false)) in
    sym (fails passed-1 (rw (← c.if-has_restart.ensures, eq-eqb (interval b) 0 (sym c.interval.ensures ∙ c.if-interval-eq0.true))))

pub returns : goal.returns
returns c =
    let b = c.args.payload.now in
    let passed-1 : PastFirst 1 (restart_checks b) = passes start (le-ltb _ _ (rw c.restart_end.ensures at c.if-payload-restart_end.false)) in
    sym (none_left (passes passed-1 (elim c.else-has_restart.branch [
      | else-has_restart-via-then-has_restart+else-interval-eq0 w ↦ rw (← w.if-has_restart.ensures, ne_eqb (interval b) 0 (λ e. w.if-interval-eq0.false (w.interval.ensures ∙ e)))
      | else-has_restart-via-else-has_restart w ↦ rw (← w.if-has_restart.ensures)
    ])))
