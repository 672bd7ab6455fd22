use Rattle.demands.proofs.Demand3.{sent_delivery, delivery, delivers, cut_packets, packets_sent}
use Rattle.demands.proofs.delivery.Goals as goal

pub returns-clause-sent : goal.returns-clause-sent
returns-clause-sent c = sent_delivery

pub returns-clause-cut : goal.returns-clause-cut
returns-clause-cut c = delivery

pub returns-clause-any_step : goal.returns-clause-any_step
returns-clause-any_step c = delivers

pub returns-clause-cut_packets : goal.returns-clause-cut_packets
returns-clause-cut_packets c = cut_packets

pub returns-clause-packets_sent : goal.returns-clause-packets_sent
returns-clause-packets_sent c = packets_sent
