-- `receiver::step` meets its contract: by what is decided. Assumes nothing.
use Rattle.std.proofs.Common.{sym, ap}
use Rattle.state.specs.WellFormed.{holds_inspected, not_inspected}
use Rattle.state.specs.declared.Holding.{Holding}
use Rattle.receiver.proofs.Stepping.{not_formed, leaves, accepts}
use Rattle.receiver.proofs.step.Goals as goal

pub returns-in-Err : goal.returns-in-Err
returns-in-Err c =
    let a = c.args in
    let e = not_inspected a.receiver.now (sym c.in-Err.ensures.inspects) in
    not_formed a.receiver.now a.area.now a.packet.now e.0 (rw (c.refused-in-Err.ensures, e.1))

pub returns-in-Ok-decide : goal.returns-in-Ok-decide
returns-in-Ok-decide c =
    let a = c.args in
    let d = c.in-Ok-decide.ensures in
    accepts a.receiver.now a.area.now a.packet.now _ d.0 (rw d.2 at c.accept.ensures.value) (rw d.2 at c.accept.ensures.area_after)

pub returns-in-Err-decide : goal.returns-in-Err-decide
returns-in-Err-decide c =
    let a = c.args in
    let w = holds_inspected a.receiver.now (sym c.in-Ok.ensures.inspects) in
    leaves a.receiver.now a.area.now a.packet.now w.0 c.in-Err-decide.ensures (ap (λ (h : Holding). h.held) w.1) (rw c.refused.ensures)
