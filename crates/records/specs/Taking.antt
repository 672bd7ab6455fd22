-- A record taken: its packet goes to the receiver. Assumes nothing.
use Rattle.std.specs.Prelude.{ℕ, List, ◌≡◌}
use Rattle.receiver.specs.Step.{received, area_after}
use Rattle.state.specs.declared.Receiver.{Receiver}
use Rattle.records.specs.Framing as Framing
use Rattle.records.specs.Framing.{Front, front}
use Rattle.records.specs.declared.Next.TheVariants.{End, Cut, Answered}
use Rattle.records.specs.declared.Taken.{Taken}

-- Only the packet of a complete record reaches the receiver.
abbrev pub taken_by : Front → Receiver → List ℕ → Taken
taken_by Framing.Front.nothing r area = record { came = End; receiver = r }
taken_by Framing.Front.cut r area = record { came = Cut; receiver = r }
taken_by (Framing.Front.packet p) r area = record { came = Answered (received r area p).answer; receiver = (received r area p).receiver }

abbrev pub area_by : Front → Receiver → List ℕ → List ℕ
area_by Framing.Front.nothing r area = area
area_by Framing.Front.cut r area = area
area_by (Framing.Front.packet p) r area = area_after r area p

-- The outcome of `take`: what the stream's next bytes came to, the next receiver, and the area afterwards.
pub record Takes (r : Receiver) (area bytes : List ℕ) (t : Taken) (after : List ℕ) : Type 0 where
  pub taken : t ≡ taken_by (front bytes) r area
  pub lent : after ≡ area_by (front bytes) r area
