-- `receiver::first_packet::given` meets its contract: by where the tables come from. Assumes nothing.
use Rattle.wire.specs.TableSource.{made_between}
use Rattle.receiver.proofs.first_packet.given.Goals as goal

pub made-requires : goal.made-requires
made-requires c = made_between c.args.arrival.said.header.q (rw (← c.in-Made.ensures))
