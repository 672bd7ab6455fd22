-- `wire::restart::restart_end` meets its contract. Assumes nothing.
use Rattle.wire.specs.Restart.{restart_end}
use Rattle.wire.proofs.restart.restart_end.Goals as goal

pub returns-then-has_restart : goal.returns-then-has_restart
unfolding restart_end
returns-then-has_restart c = rw (← c.has_restart.ensures, c.if-has_restart.true)

pub returns-else-has_restart : goal.returns-else-has_restart
unfolding restart_end
returns-else-has_restart c = rw (← c.has_restart.ensures, c.if-has_restart.false)
