-- Any two outcomes of a public function that satisfy its contract, at the same inputs, are equal. Assumes nothing.
use Rattle.std.proofs.Common.{sym, ap, ◌∙◌}
use Rattle.std.specs.Prelude.{ℕ, List, ◌≡◌}
use Rattle.receiver.specs.declared.Received.{Received}
use Rattle.replies.specs.Output.{Decision, Writes, writes_determined, outcome_told}
use Rattle.replies.specs.declared.Refusal.{Refusal}
use Rattle.text.specs.FileName.{names_determined}
use Rattle.demands.specs.Determined.{Determines, DeterminesBoth, RefusalIsDetermined, SuccessIsDetermined, RefusalNumberIsDetermined, OutcomesAreTold, MakeTablesIsDetermined, ReadIsDetermined, ScanIsDetermined, TablesIsDetermined, RestartsOfIsDetermined, TableSourceIsDetermined, IsLawfulIsDetermined, AreFullIsDetermined, PartIsDetermined, PutIsDetermined, AreSameIsDetermined, PacketIsDetermined, NoFragmentsIsDetermined, SurveyIsDetermined, PlaceIsDetermined, InsertIsDetermined, NoneIsDetermined, HasIsDetermined, FindIsDetermined, KeepIsDetermined, WellKeptIsDetermined, IsBlankIsDetermined, OpensIsDetermined, InspectIsDetermined, WholeFlagIsDetermined, ReceiveIsDetermined, ReceiveInPlaceIsDetermined, HeadLengthIsDetermined, PutHeadIsDetermined, BuildIsDetermined, RecordLengthIsDetermined, TakeRecordIsDetermined, TakeNextIsDetermined, NoCountsIsDetermined, AddCountIsDetermined, CloseCountsIsDetermined, AcceptedIsDetermined, NumberIsDetermined, FileNameIsDetermined}

-- an outcome that has to equal a definition is determined, and so is that of a call that writes into an output
only : {A : Type 0} {d : A} → Determines (λ (x : A). x ≡ d)
only x x' a b = a ∙ sym b

written : {short : Refusal} {d : Decision} {before : List ℕ} → DeterminesBoth (Writes short d before)
written w w' after after' a b = writes_determined a b

-- `replies::Written::refusal` and `replies::Written::success`
pub refusal : RefusalIsDetermined
refusal n = only

pub success : SuccessIsDetermined
success n = only

-- `replies::Refusal::number`, and that C is told by it which outcome it was
pub refusal_number : RefusalNumberIsDetermined
refusal_number r = only

pub outcomes : OutcomesAreTold
outcomes = outcome_told

-- `tables::make_tables`, and `ljosvark::lj_make_tables`, which has the same contract: the answer and the output
pub make_tables : MakeTablesIsDetermined
make_tables q before = written

-- `wire::read`; `wire::scan` and `wire::tables`, by the bytes that they hand out; and what `wire::restarts_of`, `wire::table_source`,
-- `wire::is_lawful` and `wire::are_full` tell of a type, a Q, header fields and tables
pub read : ReadIsDetermined
read source packet = only

pub scan : ScanIsDetermined
scan packet said = only

pub tables : TablesIsDetermined
tables packet said = only

pub restarts_of : RestartsOfIsDetermined
restarts_of kind = only

pub table_source : TableSourceIsDetermined
table_source q = only

pub is_lawful : IsLawfulIsDetermined
is_lawful header = only

pub are_full : AreFullIsDetermined
are_full _ = only

-- `slices::part`, by the bytes that it hands out, `slices::put` and `slices::are_same`
pub part : PartIsDetermined
part s at n = only

pub put : PutIsDetermined
put before at bytes = only

pub are_same : AreSameIsDetermined
are_same a b = only

-- `sender::packet`, and `ljosvark::lj_packet`, which has the same contract: the answer and the output
pub packet : PacketIsDetermined
packet p size s k before = written

-- `fragments::none`, `fragments::survey`, `fragments::place` and `fragments::insert`
pub no_fragments : NoFragmentsIsDetermined
no_fragments = only

pub survey : SurveyIsDetermined
survey a count = only

pub place : PlaceIsDetermined
place a count f = only

pub insert : InsertIsDetermined
insert a count at f = only

-- the store: `kept::none`, `kept::has`, `kept::find`, `kept::keep`, `kept::well_kept` and `kept::is_blank`
pub none : NoneIsDetermined
none = only

pub has : HasIsDetermined
has k q = only

pub find : FindIsDetermined
find k q = only

pub keep : KeepIsDetermined
keep k q _ = only

pub well_kept : WellKeptIsDetermined
well_kept k = only

pub is_blank : IsBlankIsDetermined
is_blank _ = only

-- `state::open`, and `ljosvark::lj_open`, which has the same contract; `state::inspect` and `state::whole_flag`
pub opens : OpensIsDetermined
opens source room = only

pub inspect : InspectIsDetermined
inspect r = only

pub whole_flag : WholeFlagIsDetermined
whole_flag end bytes = only

-- `receiver::receive`: the answer with the next receiver, and the area
pub receive : ReceiveIsDetermined
receive r area _ d d' after after' a b = (only d d' a.answer b.answer, only after after' a.lent b.lent)

-- `ljosvark::lj_receive`: the answer, the receiver that is left behind the reference, and the area
pub receive_in_place : ReceiveInPlaceIsDetermined
receive_in_place r area _ x x' next next' after after' a b =
    let same = only (record { answer = x; receiver = next }) (record { answer = x'; receiver = next' }) a.answer b.answer in
    (ap (λ (d : Received). d.answer) same, ap (λ (d : Received). d.receiver) same, only after after' a.lent b.lent)

-- `head::length` and `head::put`
pub head_length : HeadLengthIsDetermined
head_length interval = only

pub put_head : PutHeadIsDetermined
put_head f _ before = only

-- `builder::build`, and `ljosvark::lj_build`, which has the same contract: the answer and the output
pub build : BuildIsDetermined
build r area before = written

-- `records::length`, and `records::take`: what came with the next receiver, and the area
pub record_length : RecordLengthIsDetermined
record_length bytes = only

pub take_record : TakeRecordIsDetermined
take_record r area bytes t t' after after' a b = (only t t' a.taken b.taken, only after after' a.lent b.lent)

-- `records::take_next`: the bytes that came decide the rest
pub take_next : TakeNextIsDetermined
take_next left r area before bytes t t' after after' a b =
    take_record r area bytes t t' after after' (rw a.4 at a.3.takes) (rw b.4 at b.3.takes)

-- the counts of a run: `tally::none`, `tally::add`, `tally::close` and `tally::accepted`
pub no_counts : NoCountsIsDetermined
no_counts = only

pub add_count : AddCountIsDetermined
add_count t before answer after = only

pub close_counts : CloseCountsIsDetermined
close_counts t last = only

pub accepted : AcceptedIsDetermined
accepted t = only

-- `text::number`, and `text::file_name`: the answer and the output
pub number : NumberIsDetermined
number text = only

pub file_name : FileNameIsDetermined
file_name prefix n before a a' after after' x y = names_determined x y
