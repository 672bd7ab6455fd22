-- A refusal has a number, gives back the receiver that it was handed, and changes no byte that it was lent; so does Again, which is no
-- refusal. Assumes nothing.
use Rattle.std.specs.Prelude.{ℕ, Bool, true, List, Option, [], ◌∷◌, ◌++◌, ◌≡◌, eqb, Err}
use Rattle.laws.specs.Any.{any}
use Rattle.receiver.specs.Step.{held, Receives}
use Rattle.receiver.specs.declared.Received.{Received}
use Rattle.replies.specs.Reply
use Rattle.replies.specs.declared.Written.{Written}
use Rattle.replies.specs.declared.Refusal.{Refusal}
use Rattle.replies.specs.Refusal.{number}
use Rattle.state.specs.declared.Receiver.{Receiver}
use Rattle.builder.specs.Building.{Builds}
use Rattle.laws.specs.Each.{Each}
use Rattle.records.specs.Reading.{TakesNext}
use Rattle.records.specs.Taking.{Takes}
use Rattle.records.specs.declared.Taken.{Taken}
use Rattle.sender.specs.Picture.{Picture}
use Rattle.sender.specs.Sending.{Sends}
use Rattle.sender.specs.declared.Stamp.{Stamp}
use Rattle.state.specs.Opening.{Opens}
use Rattle.state.specs.Receiver.{fresh}
use Rattle.state.specs.declared.Answer.{Answer}
use Rattle.state.specs.declared.Opened.{Opened}
use Rattle.tables.specs.MakeTables.{MakesTables}
use Rattle.wire.specs.Reading.{Reads}
use Rattle.demands.specs.History.{State, Calls, NotAccepted, answer_in}

-- The numbers of refusals: of table making, the sender, the builder, the reader and the receiver.
abbrev pub of_tables : List ℕ
of_tables = 34 ∷ 35 ∷ []

abbrev pub of_sender : List ℕ
of_sender = 40 ∷ 41 ∷ 42 ∷ 43 ∷ 44 ∷ 45 ∷ 46 ∷ []

abbrev pub of_builder : List ℕ
of_builder = 9 ∷ 8 ∷ 30 ∷ 31 ∷ []

abbrev pub of_reader : List ℕ
of_reader = 10 ∷ 11 ∷ 12 ∷ 13 ∷ 14 ∷ 15 ∷ 16 ∷ 17 ∷ 18 ∷ 19 ∷ 20 ∷ 21 ∷ []

abbrev pub of_receiver : List ℕ
of_receiver = 8 ∷ 9 ∷ (of_reader ++ (22 ∷ 23 ∷ 24 ∷ 25 ∷ 26 ∷ 27 ∷ []))

-- The replies with which the receiver changes nothing.
abbrev pub unchanging : List ℕ
unchanging = Reply.again ∷ of_receiver

abbrev pub is_one_of : List ℕ → ℕ → Bool
is_one_of numbers n = any (eqb n) numbers

-- A refusal of a call that writes into a lent output.
pub record Refused (numbers before : List ℕ) (w : Written) (after : List ℕ) : Type 0 where
  pub number : is_one_of numbers w.reply ≡ true
  pub no_length : w.length ≡ 0
  pub no_byte_changed : after ≡ before

-- A call of the receiver that changes nothing: its reply, how many scan bytes are held as before, and what it gives back.
pub record Unchanged (r : Receiver) (area : List ℕ) (d : Received) (after : List ℕ) : Type 0 where
  pub number : is_one_of unchanging d.answer.reply ≡ true
  pub count : d.answer.held ≡ held r
  pub receiver_handed_back : d.receiver ≡ r
  pub area_as_it_was : after ≡ area

-- ---- what is proved

-- `tables::make_tables` and `ljosvark::lj_make_tables`
abbrev pub TablesRefuse : Type 0
TablesRefuse = (q : ℕ) (before : List ℕ) (w : Written) (after : List ℕ) → MakesTables q before w after → (w.reply ≡ Reply.success → ⊥) → Refused of_tables before w after

-- `sender::packet` and `ljosvark::lj_packet`
abbrev pub SenderRefuses : Type 0
SenderRefuses = (p : Picture) (size : ℕ) (s : Stamp) (k : ℕ) (before : List ℕ) (w : Written) (after : List ℕ) → Sends p size s k before w after → (w.reply ≡ Reply.success → ⊥) → Refused of_sender before w after

-- `builder::build` and `ljosvark::lj_build`
abbrev pub BuilderRefuses : Type 0
BuilderRefuses = (r : Receiver) (area before : List ℕ) (w : Written) (after : List ℕ) → Builds r area before w after → (w.reply ≡ Reply.success → ⊥) → Refused of_builder before w after

-- `wire::read`, which is lent nothing to write
abbrev pub ReaderRefuses : Type 0
ReaderRefuses = (source : ℕ) (packet : List ℕ) (r : Refusal) → Reads source packet (Err r) → is_one_of of_reader (number r) ≡ true

-- `state::open` and `ljosvark::lj_open`: 7, and a fresh receiver of room 0
abbrev pub OpeningRefuses : Type 0
OpeningRefuses = (source room : ℕ) (o : Opened) → Opens source room o → (o.answer.reply ≡ Reply.success → ⊥) → o ≡ record { answer = record { reply = 7; held = 0 }; receiver = fresh source 0 }

-- `receiver::receive` and `ljosvark::lj_receive`: any reply but held and whole is again or a refusal
abbrev pub ReceiverRefuses : Type 0
ReceiverRefuses = (r : Receiver) (area p : List ℕ) (d : Received) (after : List ℕ) → Receives r area p d after → NotAccepted d.answer → Unchanged r area d after

-- So calls of which none is answered with held or whole leave receiver and area as they were, however many they are,
abbrev pub CallsLeaveAll : Type 0
CallsLeaveAll = (x : State) (packets : List (List ℕ)) (answered : List Answer) (y : State) → Calls x packets answered y → Each NotAccepted answered → y ≡ x

-- and so does `records::take` at the end of a stream, in a cut record, and with a packet that is not accepted.
abbrev pub RecordsLeaveAll : Type 0
RecordsLeaveAll = (r : Receiver) (area bytes : List ℕ) (t : Taken) (after : List ℕ) → Takes r area bytes t after → Each NotAccepted (answer_in t.came) → (t.receiver ≡ r) × (after ≡ area)

-- So does `records::take_next`, which takes the bytes that came.
abbrev pub NextRecordsLeaveAll : Type 0
NextRecordsLeaveAll = (left : Option (List ℕ)) (r : Receiver) (area before buffer : List ℕ) (t : Taken) (unfailed : Bool) (after : List ℕ) (left_after : Option (List ℕ)) → TakesNext left r area before buffer t unfailed after left_after → Each NotAccepted (answer_in t.came) → (t.receiver ≡ r) × (after ≡ area)
