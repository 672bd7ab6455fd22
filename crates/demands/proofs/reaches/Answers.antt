use Rattle.demands.proofs.Reachable.{reachable, builds, its_steps}
use Rattle.demands.proofs.reaches.Goals as goal

pub returns-clause-left : goal.returns-clause-left
returns-clause-left c = reachable

pub returns-clause-built : goal.returns-clause-built
returns-clause-built c = builds

pub returns-clause-steps : goal.returns-clause-steps
returns-clause-steps c = λ source room packets answered x h. its_steps h
