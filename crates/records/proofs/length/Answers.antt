-- `records::length` meets its contract: by whether the length field is all there. Assumes nothing.
use Rattle.std.proofs.Common.{arith, lt-ltb}
use Rattle.wire.specs.Field.{field_2}
use Rattle.records.specs.Framing.{record_length, length_there}
use Rattle.records.proofs.length.Goals as goal

pub returns-in_default-clause-told : goal.returns-in_default-clause-told
unfolding record_length
returns-in_default-clause-told c = rw (lt-ltb _ _ c.in_default.len_below)

pub returns-in-len2-up-clause-told : goal.returns-in-len2-up-clause-told
returns-in-len2-up-clause-told c = rw (length_there _ c.in-len2-up.len_at_least, field_2 _ _) (omega (arith, c.from.ensures, c.from_be_bytes.ensures))
