-- `builder::body::put` meets its contract: the scan, and behind it the closing marker, where it is due. Assumes nothing.
use Rattle.std.proofs.Common.{refl, sym, ◌∙◌, arith, length-append}
use Rattle.head.specs.Segment.{eoi, marker}
use Rattle.laws.specs.Put.{puts_more}
use Rattle.slices.specs.Slices.{puts_fits}
use Rattle.builder.specs.File.{body_closed, body_open}
use Rattle.builder.proofs.body.put.Goals as goal

pub returns-then-not-is_closed : goal.returns-then-not-is_closed
returns-then-not-is_closed c =
    let e = body_open c.args.scan.now (sym c.is_closed.ensures ∙ c.if-not-is_closed.true) in
    let n = length-append c.args.scan.now (marker eoi) in
    let fits = rw (e, n) at c.requires in
    rw e (puts_more (puts_fits (omega arith) c.put.ensures) (puts_fits (omega arith) c.put-then-not-is_closed.ensures) (omega arith) refl)

pub returns-else-not-is_closed : goal.returns-else-not-is_closed
returns-else-not-is_closed c =
    let e = body_closed c.args.scan.now (sym c.is_closed.ensures ∙ c.if-not-is_closed.false) in
    rw e (puts_fits (rw e at c.requires) c.put.ensures)
