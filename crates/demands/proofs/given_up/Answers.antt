use Rattle.demands.proofs.GivenUp.{given_up_for_another, another_gives_up, reply_has_place}
use Rattle.demands.proofs.given_up.Goals as goal

pub returns-clause-for_another : goal.returns-clause-for_another
returns-clause-for_another c = given_up_for_another

pub returns-clause-by_another : goal.returns-clause-by_another
returns-clause-by_another c = another_gives_up

pub returns-clause-has_place : goal.returns-clause-has_place
returns-clause-has_place c = reply_has_place
