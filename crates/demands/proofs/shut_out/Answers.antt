use Rattle.demands.proofs.ShutOut.{refuses_all, says_held, never_writes, only_claims, only_claims_file, constant_sender, invented_count, count_by_packet, counts_held, cuts_as_said}
use Rattle.demands.proofs.shut_out.Goals as goal

pub returns-clause-refuses_all : goal.returns-clause-refuses_all
returns-clause-refuses_all c = refuses_all

pub returns-clause-says_held : goal.returns-clause-says_held
returns-clause-says_held c = says_held

pub returns-clause-never_writes : goal.returns-clause-never_writes
returns-clause-never_writes c = never_writes

pub returns-clause-only_claims : goal.returns-clause-only_claims
returns-clause-only_claims c = only_claims

pub returns-clause-only_claims_file : goal.returns-clause-only_claims_file
returns-clause-only_claims_file c = only_claims_file

pub returns-clause-constant_sender : goal.returns-clause-constant_sender
returns-clause-constant_sender c = constant_sender

pub returns-clause-invented_count : goal.returns-clause-invented_count
returns-clause-invented_count c = invented_count

pub returns-clause-count_by_packet : goal.returns-clause-count_by_packet
returns-clause-count_by_packet c = count_by_packet

pub returns-clause-counts_held : goal.returns-clause-counts_held
returns-clause-counts_held c = counts_held

pub returns-clause-cuts_as_said : goal.returns-clause-cuts_as_said
returns-clause-cuts_as_said c = cuts_as_said
