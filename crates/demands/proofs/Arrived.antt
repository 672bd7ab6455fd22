-- The receiver and its area when some of a picture's packets have come, as a function of which ones alone. Assumes nothing.
use Rattle.std.proofs.Common.{ap, ap₂, ◌∙◌, arith}
use Rattle.std.specs.Prelude.{ℕ, Bool, List, ◌≡◌, refl, length, Ok as Said, Err as Refused}
use Rattle.fragments.specs.Array.{held_padded}
use Rattle.receiver.proofs.Laws.{Taken, read_first, judged_on, when_left, taken_when}
use Rattle.receiver.specs.Picture.{picture_held}
use Rattle.receiver.specs.Step.Decision.{leave}
use Rattle.receiver.specs.Step.{decision, judged_read}
use Rattle.receiver.specs.Time.{behind_else}
use Rattle.replies.specs.Checks.{judged}
use Rattle.replies.specs.Reply
use Rattle.state.specs.Receiver.{held_fragments}
use Rattle.state.specs.declared.Receiver.{Receiver}
use Rattle.wire.specs.Field.{Bytes}
use Rattle.wire.specs.Readable.{read_packet}
use Rattle.wire.specs.Reading.{Reading, reading}
use Rattle.wire.specs.declared.Packet.{Packet}
use Rattle.demands.proofs.Filled.{length_filled}
use Rattle.demands.proofs.History.{accepted_small}
use Rattle.demands.specs.Arrived.{Begun, receiver_with, area_with, arrived, Ok}
use Rattle.demands.specs.CutsIn.{cuts_in}
use Rattle.demands.specs.Delivery.{Harmless, LeavesAll}
use Rattle.demands.specs.History.{state, step}

-- ---- laws

-- a call that leaves all as it is
module _ (r : Receiver) (area q : List ℕ) {n : ℕ} (d : decision r area q ≡ leave n) where
  pub leaves : ((step (state r area) q).answer.reply ≡ n) × ((step (state r area) q).left ≡ state r area)
  leaves =
      let t = when_left r area q d in
      (rw t.0, ap₂ state (rw t.0) t.1)

  pub leaves_all : LeavesAll step (state r area) q
  leaves_all = (λ e. taken (taken_when r area q (accepted_small (step (state r area) q).answer e)), leaves.1)
    where
      taken : Taken r area q → ⊥
      taken t = let z : ◌≡◌ {A = ℕ} 0 1 = cc (t.decided, d) in omega arith

module _ (g : Begun) (come : List Bool) (ok : Ok g come) where
  abbrev r : Receiver
  r = receiver_with g come

  abbrev area : List ℕ
  area = area_with g come

  pub area_lent : length (area_with g come) ≡ g.receiver.room
  area_lent = length_filled (cuts_in come g.cuts) g.picture.scan g.area ∙ g.lent

  pub held_cuts : held_fragments (receiver_with g come) ≡ cuts_in come g.cuts
  held_cuts = held_padded (cuts_in come g.cuts)

  -- Another packet changes nothing: the reader refuses it, or it is past.
  module _ (q : List ℕ) (bytes : Bytes q) (harmless : Harmless g.stamp q) where
    when_older : (t : Packet) → reading r.source q ≡ Said t → decision r area q ≡ leave Reply.past
    unfolding judged
    when_older t e =
        let read : reading g.stamp.source q ≡ Said t = rw g.source e in
        let h = harmless t read in
        let behind = behind_else t.time g.stamp.time (read_packet g.stamp.source q t read bytes).time g.packets.sendable.time h.0 h.1 in
        judged_on r area q ok.1 area_lent e (picture_held r t (rw g.time at h.1)) ∙ rw (rw g.time at behind)

    pub other_comes : LeavesAll step (arrived g come) q
    other_comes = go (reading r.source q) refl
      where
        go : (a : Reading) → reading r.source q ≡ a → LeavesAll step (arrived g come) q
        go (Refused n) e = leaves_all r area q (read_first r area q ok.1 area_lent ∙ ap (judged_read r area q) e)
        go (Said t) e = leaves_all r area q (when_older t e)
