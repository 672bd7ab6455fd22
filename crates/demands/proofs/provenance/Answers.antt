use Rattle.demands.proofs.Demand3.{provenance, whole_as_brought, told_as_brought, shown}
use Rattle.demands.proofs.provenance.Goals as goal

pub returns-clause-after_history : goal.returns-clause-after_history
returns-clause-after_history c = provenance

pub returns-clause-any_step : goal.returns-clause-any_step
returns-clause-any_step c = whole_as_brought

pub returns-clause-told : goal.returns-clause-told
returns-clause-told c = told_as_brought

pub returns-clause-shown : goal.returns-clause-shown
returns-clause-shown c = shown
