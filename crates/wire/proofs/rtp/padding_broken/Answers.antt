-- `wire::rtp::padding_broken` meets its contract. Assumes nothing.
use Rattle.std.proofs.Common.{lt-ltb, le-ltb, eq-eqb, ne_eqb, arith}
use Rattle.wire.specs.Rtp.{fixed, dropped, padding_broken}
use Rattle.wire.proofs.rtp.padding_broken.Goals as goal

pub returns-then-byte_at-ne1 : goal.returns-then-byte_at-ne1
unfolding padding_broken
returns-then-byte_at-ne1 c = rw (ne_eqb (fixed c.args.packet.now).padding 1 (λ e. omega arith))

pub returns-then-n-lt1 : goal.returns-then-n-lt1
unfolding padding_broken
returns-then-n-lt1 c =
    let p = c.args.packet.now in
    rw (eq-eqb (fixed p).padding 1 (omega arith), lt-ltb (dropped p) 1 (omega arith), lt-ltb _ 1 c.if-n-lt1.true)

pub returns-else-n-lt1 : goal.returns-else-n-lt1
unfolding padding_broken
returns-else-n-lt1 c =
    let p = c.args.packet.now in
    rw (eq-eqb (fixed p).padding 1 (omega arith), le-ltb (dropped p) 1 (omega arith), ← c.padding-n.ensures, ← c.requires.end_value)
