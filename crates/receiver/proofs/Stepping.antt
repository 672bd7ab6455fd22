-- The outcome of a step, by what it decides. Assumes nothing.
use Rattle.std.proofs.Common.{◌≡◌, ℕ, true, false, List, sym, ◌∙◌}
use Rattle.fragments.specs.Held.{total}
use Rattle.laws.specs.Put.{put}
use Rattle.replies.specs.Reply as Reply
use Rattle.state.specs.Receiver.{held_fragments}
use Rattle.state.specs.WellFormed.{well_formed}
use Rattle.state.specs.declared.Receiver.{Receiver}
use Rattle.wire.specs.Reading.{scan_in}
use Rattle.wire.specs.declared.Packet.{Packet}
use Rattle.receiver.proofs.Laws.{answers_9, when_left, when_accepted}
use Rattle.receiver.specs.Picture.{picture_for}
use Rattle.receiver.specs.Step.Decision.{leave, accept}
use Rattle.receiver.specs.Step.{decision, taken, held, answering, took_in, area_after, Receives}
use Rattle.receiver.specs.declared.Received.{Received}

module _ (r : Receiver) (area p : List ℕ) where
  pub not_formed : {d : Received} → well_formed r ≡ false → d ≡ answering Reply.not_well_formed 0 r → Receives r area p d area
  unfolding area_after decision
  not_formed w e = record { answer = e ∙ sym (answers_9 r area p w); lent = rw w }

  pub leaves : {d : Received} {n h : ℕ} → well_formed r ≡ true → decision r area p ≡ leave n → h ≡ total (held_fragments r) → d ≡ answering n h r → Receives r area p d area
  unfolding held
  leaves w decided sum e = let l = when_left r area p decided in record { answer = e ∙ rw (sum, l.0, w); lent = sym l.1 }

  pub accepts : {d : Received} {after : List ℕ} (s : Packet) → decision r area p ≡ accept s → d ≡ took_in (taken (picture_for r s) p s) → after ≡ put area s.offset (scan_in p s) → Receives r area p d after
  accepts s decided e written = let l = when_accepted r area p decided in record { answer = e ∙ sym l.0; lent = written ∙ sym l.1 }
