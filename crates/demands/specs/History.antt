-- A history of calls, a packet each. Assumes nothing.
use Rattle.std.specs.Prelude.{ℕ, Bool, List, Option, [], ◌∷◌, ◌⊎◌, ◌≡◌, length, take, ◌++◌}
use Rattle.laws.specs.Each.{Each}
use Rattle.receiver.specs.Step.{received, area_after, Receives}
use Rattle.records.specs.Framing as Framing
use Rattle.records.specs.Framing.{Front, front}
use Rattle.records.specs.declared.Next.TheVariants.{End, Cut, Answered}
use Rattle.records.specs.declared.Next.{Next}
use Rattle.replies.specs.Reply
use Rattle.state.specs.Opening.{Opens}
use Rattle.state.specs.declared.Answer.{Answer}
use Rattle.state.specs.declared.Opened.{Opened}
use Rattle.state.specs.declared.Receiver.{Receiver}
use Rattle.wire.specs.Field.{Bytes}
use Rattle.laws.specs.Within.{Between}
use Rattle.records.specs.Reading.{TakesNext}
use Rattle.records.specs.Taking.{Takes}
use Rattle.records.specs.declared.Taken.{Taken}
use Rattle.state.specs.Receiver.{fresh}

-- A receiver, and the scan area that is lent with it.
pub record State : Type 0 where
  pub receiver : Receiver
  pub area : List ℕ

abbrev pub state : Receiver → List ℕ → State
state receiver area = record { receiver = receiver; area = area }

-- Calls of `receiver::receive` or of `ljosvark::lj_receive`, a packet each and an answer to each: every call meets its contract, and is
-- handed receiver and area as the last one left them. Other calls may stand between them: but for `records::take` and
-- `records::take_next`, of which below, none takes a receiver or its area to change it.
abbrev pub Calls : State → List (List ℕ) → List Answer → State → Type 0
Calls x [] [] y = x ≡ y
Calls x [] (a ∷ answered) y = ⊥
Calls x (p ∷ packets) [] y = ⊥
Calls x (p ∷ packets) (a ∷ answered) y =
    (z : State)
    × Receives x.receiver x.area p (record { answer = a; receiver = z.receiver }) z.area
    × Calls z packets answered y

-- "Take a receiver we opened and a scan area as long as its room, after any history of calls, every call handed both as the last one
-- left them." Opened means with reply 0; a packet is a list of bytes, of any length; and x is what the history leaves.
pub record History (source room : ℕ) (packets : List (List ℕ)) (answered : List Answer) (x : State) : Type 0 where
  pub opened : Opened
  pub opens : Opens source room opened
  pub with_reply_0 : opened.answer.reply ≡ Reply.success
  pub area : List ℕ
  pub as_long_as_the_room : length area ≡ room
  pub bytes : Each Bytes packets
  pub calls : Calls (state opened.receiver area) packets answered x

-- Accepted is reply 0 or 1; any other is a refusal, or again.
abbrev pub Accepted : Answer → Type 0
Accepted a = (a.reply ≡ Reply.held) ⊎ (a.reply ≡ Reply.whole)

abbrev pub NotAccepted : Answer → Type 0
NotAccepted a = Accepted a → ⊥

-- What a call gives: an answer, and what it leaves for the next one.
pub record Outcome (S : Type 0) : Type 0 where
  pub answer : Answer
  pub left : S

abbrev pub outcome : {S : Type 0} → Answer → S → Outcome S
outcome answer left = record { answer = answer; left = left }

-- Of any step that takes packets one by one: what a list of them leaves, and the answers to them.
module _ {S : Type 0} (step : S → List ℕ → Outcome S) where
  abbrev pub after : S → List (List ℕ) → S
  after x [] = x
  after x (p ∷ packets) = after (step x p).left packets

  abbrev pub answers : S → List (List ℕ) → List Answer
  answers x [] = []
  answers x (p ∷ packets) = (step x p).answer ∷ answers (step x p).left packets

-- The receiver's step.
abbrev pub step : State → List ℕ → Outcome State
step x p = let d = received x.receiver x.area p in outcome d.answer (state d.receiver (area_after x.receiver x.area p))

-- A step that meets the contract of `receiver::receive` in every state and for every packet.
abbrev pub MeetsContract : (State → List ℕ → Outcome State) → Type 0
MeetsContract f = (x : State) (p : List ℕ) → Receives x.receiver x.area p (record { answer = (f x p).answer; receiver = (f x p).left.receiver }) (f x p).left.area

-- A call of `records::take` is a call with the packet of a complete record, and none at the end of a stream and in a cut record. The
-- packet is made of bytes where the stream is.
abbrev pub packet_in : Front → List (List ℕ)
packet_in Framing.Front.nothing = []
packet_in Framing.Front.cut = []
packet_in (Framing.Front.packet p) = p ∷ []

abbrev pub answer_in : Next → List Answer
answer_in End = []
answer_in Cut = []
answer_in (Answered a) = a ∷ []

-- ---- what is proved

module _ (source room : ℕ) (area : List ℕ) (packets : List (List ℕ)) where
  abbrev pub ThereAreHistories : Type 0
  ThereAreHistories = Between 1 65536 room → length area ≡ room → Each Bytes packets → History source room packets (answers step (state (fresh source room) area) packets) (after step (state (fresh source room) area) packets)

-- calls, and calls that go on from there
abbrev pub CallsGoOn : Type 0
CallsGoOn = (x : State) (packets : List (List ℕ)) (answered : List Answer) (y : State) (more : List (List ℕ)) (answered' : List Answer) (z : State) → Calls x packets answered y → Calls y more answered' z → Calls x (packets ++ more) (answered ++ answered') z

abbrev pub RecordsAreCalls : Type 0
RecordsAreCalls = (r : Receiver) (area bytes : List ℕ) (t : Taken) (after : List ℕ) → Takes r area bytes t after → Calls (state r area) (packet_in (front bytes)) (answer_in t.came) (state t.receiver after)

-- and a call of `records::take_next` is one of `records::take` with the bytes that came
abbrev pub NextRecordsAreCalls : Type 0
NextRecordsAreCalls = (left : Option (List ℕ)) (r : Receiver) (area before buffer : List ℕ) (t : Taken) (unfailed : Bool) (after : List ℕ) (left_after : Option (List ℕ)) → (next : TakesNext left r area before buffer t unfailed after left_after) → Calls (state r area) (packet_in (front (take next.n buffer))) (answer_in t.came) (state t.receiver after)

abbrev pub RecordsAreOfBytes : Type 0
RecordsAreOfBytes = (bytes : List ℕ) → Bytes bytes → Each Bytes (packet_in (front bytes))
