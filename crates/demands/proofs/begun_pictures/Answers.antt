use Rattle.demands.proofs.Begun.{begins_starts, starts_begins, begun_whole_or_given_up, tally_of_all_begun}
use Rattle.demands.proofs.begun_pictures.Goals as goal

pub returns-clause-begins : goal.returns-clause-begins
returns-clause-begins c = begins_starts

pub returns-clause-starts : goal.returns-clause-starts
returns-clause-starts c = starts_begins

pub returns-clause-balance : goal.returns-clause-balance
returns-clause-balance c = begun_whole_or_given_up

pub returns-clause-tally : goal.returns-clause-tally
returns-clause-tally c = tally_of_all_begun
