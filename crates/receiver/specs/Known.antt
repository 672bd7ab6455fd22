-- What is known when a packet has been read and is judged, and when it is accepted. Assumes nothing.
use Rattle.std.specs.Prelude.{◌≡◌, ℕ, Bool, true, List, length, ◌==◌, Result, Ok, Err}
use Rattle.fragments.specs.Held.{total}
use Rattle.fragments.specs.Insertion.{place}
use Rattle.fragments.specs.Order.{reach}
use Rattle.replies.specs.Checks.{Judged}
use Rattle.replies.specs.Refusal.{number}
use Rattle.replies.specs.declared.Refusal.{Refusal}
use Rattle.state.specs.Receiver.{held_fragments, header_of}
use Rattle.state.specs.WellFormed.{well_formed}
use Rattle.state.specs.declared.Receiver.{Receiver}
use Rattle.wire.specs.Reading.{reading}
use Rattle.wire.specs.declared.Packet.{Packet}
use Rattle.receiver.specs.Picture.{starts, picture_for}
use Rattle.receiver.specs.Step.Decision.{leave, accept}
use Rattle.receiver.specs.Step.{decision}
use Rattle.receiver.specs.Verdict.{fragment_of, Accepted}
use Rattle.receiver.specs.declared.judge.Arrival.{Arrival}
use Rattle.receiver.specs.declared.picture.Numbers.{Numbers}

-- The numbers of a picture.
abbrev pub numbers : Bool → Receiver → Numbers
numbers begun r = record {
  begun = begun;
  time = r.time;
  header = header_of r;
  end = r.end;
  whole = r.whole == 1;
  count = r.fragment_count;
  held = total (held_fragments r);
  reach = reach (held_fragments r);
}

-- The receiver is well formed, its array has 64 places, the packet says what arrives, and the numbers are those of the picture that it is
-- for.
pub record Known (r : Receiver) (a : Arrival) : Type 0 where
  pub formed : well_formed r ≡ true
  pub long : length r.fragments ≡ 64
  pub read : reading r.source a.packet.now ≡ Ok a.said
  pub picture : a.picture ≡ numbers (starts r a.said) (picture_for r a.said)

-- The place at which a packet's fragment goes among those of its picture.
abbrev pub its_place : Receiver → Packet → ℕ
its_place r s = place (fragment_of s) (held_fragments (picture_for r s))

-- What arrives is accepted, too, and its fragment goes to place `at`.
pub record Admitted (r : Receiver) (a : Arrival) (at : ℕ) : Type 0 where
  pub known : Known r a
  pub accepted : Accepted (picture_for r a.said) a.said
  pub place : at ≡ its_place r a.said

-- A verdict with the place at which an accepted packet's fragment goes.
abbrev pub ruled_at : Judged → ℕ → Result ℕ Refusal
ruled_at (Ok passed) at = Ok at
ruled_at (Err why) at = Err why

abbrev pub placed_by : Receiver → Packet → Judged → Result ℕ Refusal
placed_by r s j = ruled_at j (its_place r s)

-- The outcome of `decide`: the refusal that the call answers, or what it accepts of this packet, with the area as long as the room.
abbrev pub Decides : Receiver → List ℕ → List ℕ → Result (Arrival × ℕ) Refusal → Type 0
Decides r area p (Err why) = decision r area p ≡ leave (number why)
Decides r area p (Ok a) = (decision r area p ≡ accept a.0.said) × (length area ≡ r.room) × (a.0.packet.now ≡ p) × Admitted r a.0 a.1
