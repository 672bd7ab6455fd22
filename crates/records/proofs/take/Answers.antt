-- `records::take` meets its contract: by what the stream begins with. Assumes nothing.
use Rattle.std.proofs.Common.{arith, rules}
use Rattle.records.specs.Framing.{length_least, front_nothing, front_cut, front_packet}
use Rattle.records.proofs.take.Goals as goal

pub returns-then-is_empty : goal.returns-then-is_empty
returns-then-is_empty c = let begins = front_nothing c.args.bytes.now (search rules) in record { taken = rw begins; lent = rw begins }

pub returns-in_default : goal.returns-in_default
returns-in_default c =
    let begins = front_cut c.args.bytes.now (search rules) c.length.ensures.told (omega (arith, c.in_default.ensures.lookup.0, c.length.ensures.told, length_least c.args.bytes.now)) in
    record { taken = rw begins; lent = rw begins }

pub returns : goal.returns
returns c =
    let begins = front_packet c.args.bytes.now (search rules) c.length.ensures.told (omega (arith, c.in-Some.ensures.lookup)) c.in-Some.ensures.lookup.0.2 in
    record { taken = rw (begins, c.receive-received.ensures.answer); lent = rw (begins, c.receive-received.ensures.lent) }
