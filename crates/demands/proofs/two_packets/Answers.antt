use Rattle.demands.proofs.TwoPackets.{transcript_delivered, sent_delivered, transcript_as_brought, another_started_later, computed}
use Rattle.demands.proofs.two_packets.Goals as goal

pub returns-clause-delivered : goal.returns-clause-delivered
returns-clause-delivered c = transcript_delivered

pub returns-clause-sent : goal.returns-clause-sent
returns-clause-sent c = sent_delivered

pub returns-clause-as_brought : goal.returns-clause-as_brought
returns-clause-as_brought c = transcript_as_brought

pub returns-clause-another : goal.returns-clause-another
returns-clause-another c = another_started_later

pub returns-clause-computed : goal.returns-clause-computed
returns-clause-computed c = computed
