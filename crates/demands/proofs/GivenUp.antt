-- When a call gives a picture up: the tally looks only at the receivers before and after it, and at neither packet nor reply. And that
-- each reply has its place among the counts. Assumes nothing.
use Rattle.std.proofs.Common.{sym, ◌∙◌, arith, eqb-true, ne_eqb, ltb-true, ap}
use Rattle.std.specs.Prelude.{ℕ, true, not, List, ◌≡◌, refl, eqb, ltb}
use Rattle.laws.specs.Truth.{split, never_both, and_true, same, other}
use Rattle.receiver.proofs.Laws.{Taken, by_decision, left_by, when_left, when_accepted, reply_small, taken_when}
use Rattle.receiver.specs.Picture.{starts, picture_for, picture_begun, picture_held}
use Rattle.receiver.specs.Step.{received, taken}
use Rattle.receiver.specs.Time.{is_newer, newer_differs}
use Rattle.receiver.specs.declared.Received.{Received}
use Rattle.state.specs.declared.Receiver.{Receiver}
use Rattle.tally.specs.Tally.{is_unfinished}
use Rattle.wire.specs.declared.Packet.{Packet}
use Rattle.demands.proofs.History.{accepted_small, small_accepted}
use Rattle.demands.specs.GivenUp.{GivenUpForAnother, AnotherGivesUp, RepliesHavePlaces}

-- a packet that starts a picture while one is held unfinished is newer
newer_than_held : (r : Receiver) (s : Packet) → is_unfinished r ≡ true → starts r s ≡ true → is_newer s.time r.time ≡ true
newer_than_held r s unfinished new =
    let held = eqb-true r.picture 1 (and_true (eqb r.picture 1) (not (eqb r.whole 1)) unfinished).0 in
    rw (ne_eqb r.picture 0 (λ z. omega arith)) at new

module _ (r : Receiver) (area p : List ℕ) where
  -- a packet that is taken leaves the time stamp of the picture that it is for
  pub time_then : (t : Taken r area p) → (received r area p).receiver.time ≡ (picture_for r t.packet).time
  unfolding taken
  time_then t = ap (λ (d : Received). d.receiver.time) (when_accepted r area p t.decided).0

  -- and so one that starts a newer picture leaves another
  pub newer_time : (t : Taken r area p) → starts r t.packet ≡ true → is_newer t.packet.time r.time ≡ true → not (eqb r.time (received r area p).receiver.time) ≡ true
  newer_time t new newer =
      let then = time_then t ∙ ap (λ (v : Receiver). v.time) (picture_begun r t.packet new) in
      other r.time (received r area p).receiver.time (λ e. newer_differs t.packet.time r.time newer (e ∙ then))

  -- the same time stamp as before is no sign of another picture
  no_other : {P : Type 0} → not (eqb r.time (received r area p).receiver.time) ≡ true → (received r area p).receiver.time ≡ r.time → P
  no_other differs e = absurd (never_both differs (same r.time (received r area p).receiver.time (sym e)))

  -- it gives one up where an unfinished one is held, and the packet is accepted and starts another; and nowhere else
  pub given_up_for_another : GivenUpForAnother r area p
  given_up_for_another e =
      let both = and_true (is_unfinished r) (not (eqb r.time (received r area p).receiver.time)) e in
      by_decision r area p
      (λ n l d. no_other both.1 (ap (λ (d : Received). d.receiver.time) (when_left r area p d).0))
      (λ t. split (starts r t.packet)
      (λ new. (both.0, record { accepted = small_accepted (received r area p).answer (reply_small r area p t); said = t.packet; read = t.read; starts_one = new }))
      (λ old. no_other both.1 (time_then t ∙ ap (λ (v : Receiver). v.time) (picture_held r t.packet old))))

  pub another_gives_up : AnotherGivesUp r area p
  another_gives_up unfinished b =
      let t = taken_when r area p (accepted_small (received r area p).answer b.accepted) in
      let read : b.said ≡ t.packet = cc (t.read, b.read) in
      let new : starts r t.packet ≡ true = rw read at b.starts_one in
      rw unfinished (newer_time t new (newer_than_held r t.packet unfinished new))

  -- the tally has 32 places for replies
  pub reply_has_place : RepliesHavePlaces r area p
  reply_has_place = by_decision r area p
      (λ n l d. rw (when_left r area p d).0 (ltb-true n 32 (left_by r area p (λ (m : ℕ). ltb m 32) (λ w. refl) (λ o. refl) refl (λ s. refl) l)))
      (λ t. omega (arith, reply_small r area p t))
