-- `builder::frame_of` meets its contract: lawful header fields fit. Assumes nothing.
use Rattle.std.proofs.Common.{arith}
use Rattle.wire.specs.Lawful.{kind_small}
use Rattle.builder.proofs.frame_of.Goals as goal

pub overflow_cast-result : goal.overflow_cast-result
overflow_cast-result c = omega (arith, kind_small c.requires)
