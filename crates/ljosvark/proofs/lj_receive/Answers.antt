use Rattle.std.proofs.Common.{sym, ◌∙◌}
use Rattle.receiver.proofs.Laws.{receiver_stays}
use Rattle.ljosvark.proofs.lj_receive.Goals as goal
use Rattle.ljosvark.proofs.lj_receive.Goals.{then-done-le-WHOLE, else-done-le-WHOLE}

-- With a reply from again on, what the step gives back is the receiver that came, and it lies there already.
pub returns : goal.returns
returns c =
    let a = c.args in
    elim c.if-done-le-WHOLE.branch [
      | then-done-le-WHOLE w ↦ rw w.receiver-is c.receive-done.ensures
      | else-done-le-WHOLE w ↦ rw (w.receiver-is ∙ sym (receiver_stays a.receiver.now a.area.now a.packet.now c.receive-done.ensures w.if-done-le-WHOLE.false)) c.receive-done.ensures
    ]
