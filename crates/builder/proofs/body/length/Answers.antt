-- `builder::body::length` meets its contract: the closing marker has two bytes, where it is due. Assumes nothing.
use Rattle.std.proofs.Common.{sym, ap, ◌∙◌, arith, length, length-append}
use Rattle.builder.specs.File.{body_closed, body_open}
use Rattle.builder.proofs.body.length.Goals as goal

pub returns-then-is_closed : goal.returns-then-is_closed
returns-then-is_closed c = sym (ap length (body_closed c.args.scan.now (sym c.is_closed.ensures ∙ c.if-is_closed.true)))

pub returns-else-is_closed : goal.returns-else-is_closed
returns-else-is_closed c = rw (body_open c.args.scan.now (sym c.is_closed.ensures ∙ c.if-is_closed.false)) (simp length-append (omega arith))
