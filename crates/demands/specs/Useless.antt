-- Useless builds, each as a step or as a sender, and what is asked of any. That none of them meets it is in
-- `ShutOut`. Assumes nothing.
use Rattle.std.specs.Prelude.{ℕ, Bool, false, cond, List, ◌≡◌, Ok, Err}
use Rattle.receiver.specs.FirstPacket.{is_first}
use Rattle.receiver.specs.Step.{held}
use Rattle.replies.specs.Reply
use Rattle.replies.specs.declared.Written.{Written}
use Rattle.sender.specs.Picture.{Picture}
use Rattle.sender.specs.Sending.{Sends}
use Rattle.sender.specs.declared.Stamp.{Stamp}
use Rattle.state.specs.declared.Receiver.{Receiver}
use Rattle.wire.specs.Field.{Bytes}
use Rattle.wire.specs.Reading.{Reading, reading}
use Rattle.wire.specs.declared.Packet.{Packet}
use Rattle.demands.specs.History.{State, state, Outcome, step}

-- ---- what is asked, besides delivery and provenance (`Delivers`, `WholeAsBrought`)

-- A receiver answers how many bytes of the scan it holds afterwards, which is the sum of the held lengths.
abbrev pub CountsHeld : (State → List ℕ → Outcome State) → Type 0
CountsHeld f = (x : State) (p : List ℕ) → Bytes p → (f x p).answer.held ≡ held (f x p).left.receiver

-- What a sender gives that is asked for packet k of a picture: an answer, and the output afterwards.
pub record Gave : Type 0 where
  pub answer : Written
  pub output : List ℕ

abbrev pub Sender : Type 0
Sender = Picture → ℕ → Stamp → ℕ → List ℕ → Gave

-- A sender cuts packets as RFC 2435 says: it meets the contract of `sender::packet`.
abbrev pub CutsAsSaid : Sender → Type 0
CutsAsSaid f = (p : Picture) (size : ℕ) (s : Stamp) (k : ℕ) (before : List ℕ) → Sends p size s k before (f p size s k before).answer (f p size s k before).output

-- ---- the builds

-- A receiver that refuses every packet, each with some number.
abbrev pub refusing : (State → List ℕ → ℕ) → State → List ℕ → Outcome State
refusing number x p = record { answer = record { reply = number x p; held = held x.receiver }; left = x }

-- One that answers every packet with held, and does else what any step does.
abbrev pub saying_held : (State → List ℕ → Outcome State) → State → List ℕ → Outcome State
saying_held f x p = record { answer = record { reply = Reply.held; held = (f x p).answer.held }; left = (f x p).left }

-- One that writes nothing into the area, and does else what any step does.
abbrev pub never_writing : (State → List ℕ → Outcome State) → State → List ℕ → Outcome State
never_writing f x p = record { answer = (f x p).answer; left = state (f x p).left.receiver x.area }

-- One that takes the first packet and only claims the others: these it answers and counts as held, and writes none of their bytes.
-- The first is, as `takes` tells of what was read, the one that starts its picture or the one at offset 0.
abbrev pub is_taken : (Receiver → Packet → Bool) → Receiver → Reading → Bool
is_taken takes r (Err n) = false
is_taken takes r (Ok s) = takes r s

abbrev pub claiming : (Receiver → Packet → Bool) → State → List ℕ → Outcome State
claiming takes x p = cond (is_taken takes x.receiver (reading x.receiver.source p)) (step x p) (never_writing step x p)

abbrev pub at_offset0 : Receiver → Packet → Bool
at_offset0 r s = is_first s

-- One that makes up its count of bytes, and does else what the receiver does.
abbrev pub inventing : (State → List ℕ → ℕ) → State → List ℕ → Outcome State
inventing count x p = record { answer = record { reply = (step x p).answer.reply; held = count x p }; left = (step x p).left }

-- A sender that gives the same, whichever packet it is asked for.
abbrev pub constant : (Picture → ℕ → Stamp → List ℕ → Gave) → Sender
constant f p size s k before = f p size s before
