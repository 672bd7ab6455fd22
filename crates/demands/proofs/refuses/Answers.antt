use Rattle.demands.proofs.Refusals.{make_tables, packet, build, read, opens, receive, calls_unchanged, take_record, take_next}
use Rattle.demands.proofs.refuses.Goals as goal

pub returns-clause-make_tables : goal.returns-clause-make_tables
returns-clause-make_tables c = make_tables

pub returns-clause-packet : goal.returns-clause-packet
returns-clause-packet c = packet

pub returns-clause-build : goal.returns-clause-build
returns-clause-build c = build

pub returns-clause-read : goal.returns-clause-read
returns-clause-read c = read

pub returns-clause-opens : goal.returns-clause-opens
returns-clause-opens c = opens

pub returns-clause-receive : goal.returns-clause-receive
returns-clause-receive c = receive

pub returns-clause-calls : goal.returns-clause-calls
returns-clause-calls c = calls_unchanged

pub returns-clause-take_record : goal.returns-clause-take_record
returns-clause-take_record c = take_record

pub returns-clause-take_next : goal.returns-clause-take_next
returns-clause-take_next c = take_next
