-- `receiver::accept` meets its contract: the answer, then the area. Assumes nothing.
use Rattle.std.proofs.Common.{◌≡◌, ◌+◌, Bool, cond, eqb, ap, ◌∙◌, arith}
use Rattle.fragments.specs.Held.{total, whole}
use Rattle.replies.specs.Reply as Reply
use Rattle.state.specs.Receiver.{held_fragments}
use Rattle.state.specs.declared.Receiver.{Receiver}
use Rattle.wire.specs.Readable.{scan_short}
use Rattle.receiver.proofs.Laws.{held_taken}
use Rattle.receiver.specs.Picture.{picture_for}
use Rattle.receiver.specs.Step.{taken}
use Rattle.receiver.specs.declared.picture.Numbers.{Numbers}
use Rattle.receiver.proofs.Taking.{total_after, held_small, written, same_answer, taken_told}
use Rattle.receiver.proofs.accept.Goals as goal

pub overflow_cast-held : goal.overflow_cast-held
overflow_cast-held c =
    let short = scan_short c.args.receiver.now.source c.args.arrival.packet.now c.args.arrival.said c.requires.admitted.known.read in
    omega arith

pub overflow_add-held : goal.overflow_add-held
overflow_add-held c =
    let short = scan_short c.args.receiver.now.source c.args.arrival.packet.now c.args.arrival.said c.requires.admitted.known.read in
    omega (arith, ap (λ (x : Numbers). x.held) c.requires.admitted.known.picture, held_small c.requires.admitted.known c.requires.admitted.accepted)

pub returns-clause-value : goal.returns-clause-value
returns-clause-value c =
    let a = c.args in
    let said = a.arrival.said in
    let known = c.requires.admitted.known in
    let accepted = c.requires.admitted.accepted in
    let v = picture_for a.receiver.now said in
    let next = taken v a.arrival.packet.now said in
    let receiver = c.take.ensures in
    let held : a.arrival.picture.held + said.scan.length ≡ total (held_fragments next) = rw (ap (λ (x : Numbers). x.held) known.picture, held_taken v a.arrival.packet.now said) (total_after known accepted) in
    let reply : c.reply_with-reply.result ≡ cond (whole (held_fragments next)) Reply.whole Reply.held =
    c.reply_with-reply.ensures
    ∙ ap (λ (x : Receiver). cond (eqb x.whole 1) Reply.whole Reply.held) receiver
    ∙ ap (λ (b : Bool). cond b Reply.whole Reply.held) (taken_told v a.arrival.packet.now said) in
    same_answer reply held receiver

pub returns-clause-area_after : goal.returns-clause-area_after
returns-clause-area_after c = written c.requires.admitted.known c.requires.admitted.accepted c.args.area.now c.requires.lent c.scan.ensures c.put.ensures
