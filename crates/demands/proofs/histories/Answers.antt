use Rattle.demands.proofs.History.{history, calls_append, take_calls, take_next_calls, packet_bytes}
use Rattle.demands.proofs.histories.Goals as goal

pub returns-clause-there_are : goal.returns-clause-there_are
returns-clause-there_are c = history

pub returns-clause-going_on : goal.returns-clause-going_on
returns-clause-going_on c = calls_append

pub returns-clause-records : goal.returns-clause-records
returns-clause-records c = take_calls

pub returns-clause-next_records : goal.returns-clause-next_records
returns-clause-next_records c = take_next_calls

pub returns-clause-of_bytes : goal.returns-clause-of_bytes
returns-clause-of_bytes c = packet_bytes
