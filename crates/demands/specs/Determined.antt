-- Any two outcomes of a public function that satisfy its contract, at the same inputs, are equal. Assumes nothing.
use Rattle.std.specs.Prelude.{◌≡◌, ℕ, Bool, List, Option, Result, take}
use Rattle.builder.specs.Building.{Builds}
use Rattle.fragments.specs.Array.{Surveys, Places, PutsIn, HasNone}
use Rattle.fragments.specs.declared.Fragment.{Fragment}
use Rattle.head.specs.Head.{TellsHeadLength, PutsHead}
use Rattle.head.specs.declared.Frame.{Frame}
use Rattle.kept.specs.Kept.{IsNone, TellsHas, Finds, Keeps, TellsWell, TellsBlank}
use Rattle.kept.specs.declared.Kept.{Kept}
use Rattle.receiver.specs.Step.{Receives}
use Rattle.records.specs.Framing.{TellsRecordLength}
use Rattle.records.specs.Reading.{TakesNext}
use Rattle.records.specs.Taking.{Takes}
use Rattle.records.specs.declared.Taken.{Taken}
use Rattle.replies.specs.Output.{IsRefusal, IsSuccess, written}
use Rattle.replies.specs.Refusal.{HasNumber}
use Rattle.replies.specs.declared.Refusal.{Refusal}
use Rattle.sender.specs.Picture.{Picture}
use Rattle.sender.specs.Sending.{Sends}
use Rattle.sender.specs.declared.Stamp.{Stamp}
use Rattle.slices.specs.Slices.{GivesPart, PutsAt, TellsSame}
use Rattle.state.specs.Opening.{Opens}
use Rattle.state.specs.WellFormed.{Inspects, TellsWhole}
use Rattle.state.specs.declared.Answer.{Answer}
use Rattle.state.specs.declared.Receiver.{Receiver}
use Rattle.tables.specs.MakeTables.{MakesTables}
use Rattle.tally.specs.Tally.{CountsNothing, Adds, Closes, TellsAccepted}
use Rattle.tally.specs.declared.Tally.{Tally}
use Rattle.text.specs.FileName.{Names}
use Rattle.text.specs.Number.{TellsNumber}
use Rattle.wire.specs.Kind.{TellsRestarts}
use Rattle.wire.specs.Lawful.{TellsLawful}
use Rattle.wire.specs.Reading.{Reads, GivesScan, GivesTables}
use Rattle.wire.specs.TableSource.{TellsSource}
use Rattle.wire.specs.Tables.{TellsFull}
use Rattle.wire.specs.declared.Header.{Header}
use Rattle.wire.specs.declared.Packet.{Packet}

-- Any two outcomes that satisfy a contract are equal: outcomes of one part, of two, and of three.
abbrev pub Determines : {A : Type 0} → (A → Type 0) → Type 0
Determines {A} Contract = (x x' : A) → Contract x → Contract x' → x ≡ x'

abbrev pub DeterminesBoth : {A B : Type 0} → (A → B → Type 0) → Type 0
DeterminesBoth {A} {B} Contract = (x x' : A) (y y' : B) → Contract x y → Contract x' y' → (x ≡ x') × (y ≡ y')

abbrev pub DeterminesAll : {A B C : Type 0} → (A → B → C → Type 0) → Type 0
DeterminesAll {A} {B} {C} Contract = (x x' : A) (y y' : B) (z z' : C) → Contract x y z → Contract x' y' z' → (x ≡ x') × (y ≡ y') × (z ≡ z')

-- ---- what is proved

-- `replies::Written::refusal` and `replies::Written::success`
abbrev pub RefusalIsDetermined : Type 0
RefusalIsDetermined = (n : ℕ) → Determines (IsRefusal n)

abbrev pub SuccessIsDetermined : Type 0
SuccessIsDetermined = (n : ℕ) → Determines (IsSuccess n)

-- `replies::Refusal::number`, and that C is told by it which outcome it was: no two outcomes of `tables::make_tables`, `sender::packet`
-- and `builder::build` are answered alike
abbrev pub RefusalNumberIsDetermined : Type 0
RefusalNumberIsDetermined = (r : Refusal) → Determines (HasNumber r)

abbrev pub OutcomesAreTold : Type 0
OutcomesAreTold = (o o' : Result ℕ Refusal) → written o ≡ written o' → o ≡ o'

-- `tables::make_tables`, and `ljosvark::lj_make_tables`, which has the same contract: the answer and the output
abbrev pub MakeTablesIsDetermined : Type 0
MakeTablesIsDetermined = (q : ℕ) (before : List ℕ) → DeterminesBoth (MakesTables q before)

-- `wire::read`; `wire::scan` and `wire::tables`, by the bytes that they hand out; and what `wire::restarts_of`, `wire::table_source`,
-- `wire::is_lawful` and `wire::are_full` tell of a type, a Q, header fields and tables
abbrev pub ReadIsDetermined : Type 0
ReadIsDetermined = (source : ℕ) (packet : List ℕ) → Determines (Reads source packet)

abbrev pub ScanIsDetermined : Type 0
ScanIsDetermined = (packet : List ℕ) (said : Packet) → Determines (GivesScan packet said)

abbrev pub TablesIsDetermined : Type 0
TablesIsDetermined = (packet : List ℕ) (said : Packet) → Determines (GivesTables packet said)

abbrev pub RestartsOfIsDetermined : Type 0
RestartsOfIsDetermined = (kind : ℕ) → Determines (TellsRestarts kind)

abbrev pub TableSourceIsDetermined : Type 0
TableSourceIsDetermined = (q : ℕ) → Determines (TellsSource q)

abbrev pub IsLawfulIsDetermined : Type 0
IsLawfulIsDetermined = (header : Header) → Determines (TellsLawful header)

abbrev pub AreFullIsDetermined : Type 0
AreFullIsDetermined = (tables : List ℕ) → Determines (TellsFull tables)

-- `slices::part`, by the bytes that it hands out, `slices::put` and `slices::are_same`
abbrev pub PartIsDetermined : Type 0
PartIsDetermined = (s : List ℕ) (at n : ℕ) → Determines (GivesPart s at n)

abbrev pub PutIsDetermined : Type 0
PutIsDetermined = (before : List ℕ) (at : ℕ) (bytes : List ℕ) → Determines (PutsAt before at bytes)

abbrev pub AreSameIsDetermined : Type 0
AreSameIsDetermined = (a b : List ℕ) → Determines (TellsSame a b)

-- `sender::packet`, and `ljosvark::lj_packet`, which has the same contract: the answer and the output
abbrev pub PacketIsDetermined : Type 0
PacketIsDetermined = (p : Picture) (size : ℕ) (s : Stamp) (k : ℕ) (before : List ℕ) → DeterminesBoth (Sends p size s k before)

-- `fragments::none`, `fragments::survey`, `fragments::place` and `fragments::insert`
abbrev pub NoFragmentsIsDetermined : Type 0
NoFragmentsIsDetermined = Determines HasNone

abbrev pub SurveyIsDetermined : Type 0
SurveyIsDetermined = (a : List Fragment) (count : ℕ) → Determines (Surveys a count)

abbrev pub PlaceIsDetermined : Type 0
PlaceIsDetermined = (a : List Fragment) (count : ℕ) (f : Fragment) → Determines (Places a count f)

abbrev pub InsertIsDetermined : Type 0
InsertIsDetermined = (a : List Fragment) (count at : ℕ) (f : Fragment) → Determines (PutsIn a count at f)

-- the store: `kept::none`, `kept::has`, `kept::find`, `kept::keep`, `kept::well_kept` and `kept::is_blank`
abbrev pub NoneIsDetermined : Type 0
NoneIsDetermined = Determines IsNone

abbrev pub HasIsDetermined : Type 0
HasIsDetermined = (k : Kept) (q : ℕ) → Determines (TellsHas k q)

abbrev pub FindIsDetermined : Type 0
FindIsDetermined = (k : Kept) (q : ℕ) → Determines (Finds k q)

abbrev pub KeepIsDetermined : Type 0
KeepIsDetermined = (k : Kept) (q : ℕ) (tables : List ℕ) → Determines (Keeps k q tables)

abbrev pub WellKeptIsDetermined : Type 0
WellKeptIsDetermined = (k : Kept) → Determines (TellsWell k)

abbrev pub IsBlankIsDetermined : Type 0
IsBlankIsDetermined = (tables : List ℕ) → Determines (TellsBlank tables)

-- `state::open`, and `ljosvark::lj_open`, which has the same contract; `state::inspect` and `state::whole_flag`
abbrev pub OpensIsDetermined : Type 0
OpensIsDetermined = (source room : ℕ) → Determines (Opens source room)

abbrev pub InspectIsDetermined : Type 0
InspectIsDetermined = (r : Receiver) → Determines (Inspects r)

abbrev pub WholeFlagIsDetermined : Type 0
WholeFlagIsDetermined = (end bytes : ℕ) → Determines (TellsWhole end bytes)

-- `receiver::receive`: the answer with the next receiver, and the area
abbrev pub ReceiveIsDetermined : Type 0
ReceiveIsDetermined = (r : Receiver) (area packet : List ℕ) → DeterminesBoth (Receives r area packet)

-- `ljosvark::lj_receive`: the answer, the receiver that is left behind the reference, and the area
abbrev pub ReceiveInPlaceIsDetermined : Type 0
ReceiveInPlaceIsDetermined = (r : Receiver) (area packet : List ℕ) → DeterminesAll (λ (answer : Answer) (next : Receiver) (after : List ℕ). Receives r area packet (record { answer = answer; receiver = next }) after)

-- `head::length` and `head::put`
abbrev pub HeadLengthIsDetermined : Type 0
HeadLengthIsDetermined = (interval : ℕ) → Determines (TellsHeadLength interval)

abbrev pub PutHeadIsDetermined : Type 0
PutHeadIsDetermined = (f : Frame) (tables before : List ℕ) → Determines (PutsHead f tables before)

-- `builder::build`, and `ljosvark::lj_build`, which has the same contract: the answer and the output
abbrev pub BuildIsDetermined : Type 0
BuildIsDetermined = (r : Receiver) (area before : List ℕ) → DeterminesBoth (Builds r area before)

-- `records::length`, and `records::take`: what came with the next receiver, and the area
abbrev pub RecordLengthIsDetermined : Type 0
RecordLengthIsDetermined = (bytes : List ℕ) → Determines (TellsRecordLength bytes)

abbrev pub TakeRecordIsDetermined : Type 0
TakeRecordIsDetermined = (r : Receiver) (area bytes : List ℕ) → DeterminesBoth (Takes r area bytes)

-- `records::take_next`: the input decides which bytes come, and they decide the rest
abbrev pub TakeNextIsDetermined : Type 0
TakeNextIsDetermined = (left : Option (List ℕ)) (r : Receiver) (area before bytes : List ℕ) → DeterminesBoth (λ (t : Taken) (after : List ℕ). (buffer : List ℕ) × (unfailed : Bool) × (left_after : Option (List ℕ)) × (came : TakesNext left r area before buffer t unfailed after left_after) × (take came.n buffer ≡ bytes))

-- the counts of a run: `tally::none`, `tally::add`, `tally::close` and `tally::accepted`
abbrev pub NoCountsIsDetermined : Type 0
NoCountsIsDetermined = Determines CountsNothing

abbrev pub AddCountIsDetermined : Type 0
AddCountIsDetermined = (t : Tally) (before : Receiver) (answer : Answer) (after : Receiver) → Determines (Adds t before answer after)

abbrev pub CloseCountsIsDetermined : Type 0
CloseCountsIsDetermined = (t : Tally) (last : Receiver) → Determines (Closes t last)

abbrev pub AcceptedIsDetermined : Type 0
AcceptedIsDetermined = (t : Tally) → Determines (TellsAccepted t)

-- `text::number`, and `text::file_name`: the answer and the output
abbrev pub NumberIsDetermined : Type 0
NumberIsDetermined = (text : List ℕ) → Determines (TellsNumber text)

abbrev pub FileNameIsDetermined : Type 0
FileNameIsDetermined = (prefix : List ℕ) (n : ℕ) (before : List ℕ) → DeterminesBoth (Names prefix n before)
