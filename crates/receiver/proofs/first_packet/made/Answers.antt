-- `receiver::first_packet::made` meets its contract. Assumes nothing.
use Rattle.std.proofs.Common.{rules}
use Rattle.tables.specs.MakeTables.{makes_all}
use Rattle.receiver.proofs.first_packet.made.Goals as goal

pub returns : goal.returns
returns c = makes_all c.args.q c.requires (search rules) c.make_tables.ensures
