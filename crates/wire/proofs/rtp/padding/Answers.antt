-- `wire::rtp::padding` meets its contract. Assumes nothing.
use Rattle.std.proofs.Common.{arith, eq-eqb, ne_eqb}
use Rattle.wire.specs.Rtp.{fixed, dropped}
use Rattle.wire.proofs.rtp.padding.Goals as goal

pub returns-then-byte_at-eq1 : goal.returns-then-byte_at-eq1
unfolding dropped
returns-then-byte_at-eq1 c = rw (eq-eqb (fixed c.args.packet.now).padding 1 (omega arith)) c.byte_at-then-byte_at-eq1.ensures

pub returns-else-byte_at-eq1 : goal.returns-else-byte_at-eq1
unfolding dropped
returns-else-byte_at-eq1 c = rw (ne_eqb (fixed c.args.packet.now).padding 1 (λ e. omega arith))
