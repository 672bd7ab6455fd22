-- `wire::rtp::headers_end` meets its contract. Assumes nothing.
use Rattle.std.proofs.Common.{arith, eq-eqb, ne_eqb}
use Rattle.wire.specs.Rtp.{fixed, headers_end}
use Rattle.wire.proofs.rtp.headers_end.Goals as goal

pub returns-then-first-eq1 : goal.returns-then-first-eq1
unfolding headers_end
returns-then-first-eq1 c =
    let p = c.args.packet.now in
    rw (eq-eqb (fixed p).extension 1 (omega arith), ← c.byte_at-first.ensures) (omega arith)

pub returns-else-first-eq1 : goal.returns-else-first-eq1
unfolding headers_end
returns-else-first-eq1 c = rw (ne_eqb (fixed c.args.packet.now).extension 1 (λ e. omega arith)) (omega arith)
