-- `wire::restart::interval` meets its contract. Assumes nothing.
use Rattle.wire.specs.Restart.{interval}
use Rattle.wire.proofs.restart.interval.Goals as goal

pub returns-then-has_restart : goal.returns-then-has_restart
unfolding interval
returns-then-has_restart c = rw (← c.has_restart.ensures, c.if-has_restart.true) c.number_at.ensures

pub returns-else-has_restart : goal.returns-else-has_restart
unfolding interval
returns-else-has_restart c = rw (← c.has_restart.ensures, c.if-has_restart.false)
