-- A refusal has a number, gives back the receiver that it was handed, and changes no byte that it was lent; so does Again, which is no
-- refusal. Assumes nothing.
use Rattle.std.proofs.Common.{sym, ap, ap₂, ◌∙◌, ne_eqb}
use Rattle.std.specs.Prelude.{ℕ, true, List, [], ◌∷◌, ◌≡◌, refl, take}
use Rattle.builder.specs.Building as Building
use Rattle.builder.specs.Building.{Builds, building, file_of}
use Rattle.fragments.specs.Fragments.{fragment_at}
use Rattle.laws.specs.Truth.{split}
use Rattle.laws.specs.Within.{between}
use Rattle.receiver.proofs.Laws.{by_decision, left_by, reply_small, when_left}
use Rattle.records.specs.Framing.{front}
use Rattle.replies.specs.Checks.{Check, judged, numbered}
use Rattle.replies.specs.Output.{Writes, decided, refusal_leaves, reply_by}
use Rattle.replies.specs.Reply
use Rattle.replies.specs.declared.Written.{Written}
use Rattle.replies.specs.declared.Refusal.{Refusal}
use Rattle.replies.specs.Refusal.{number}
use Rattle.sender.specs.Cuts.{cuts}
use Rattle.sender.specs.Packet as Packet
use Rattle.sender.specs.Sending as Sending
use Rattle.sender.specs.Sending.{Sends, sending}
use Rattle.state.specs.Opening.{opens as opens-when, opens_not}
use Rattle.state.specs.WellFormed.{is_room}
use Rattle.state.specs.declared.Opened.{Opened}
use Rattle.tables.specs.MakeTables as MakeTables
use Rattle.tables.specs.MakeTables.{MakesTables, tables_for}
use Rattle.tables.specs.Quantiser.{tables_of}
use Rattle.wire.specs.Readable.{read_refused}
use Rattle.demands.proofs.History.{small_accepted, take_calls}
use Rattle.demands.specs.History.{State, state, packet_in, answer_in}
use Rattle.demands.specs.Refusals.{of_tables, of_sender, of_builder, of_reader, unchanging, is_one_of, Refused, TablesRefuse, SenderRefuses, BuilderRefuses, ReaderRefuses, OpeningRefuses, ReceiverRefuses, CallsLeaveAll, RecordsLeaveAll, NextRecordsLeaveAll}

-- where checks decide
refused : {short : Refusal} {before after : List ℕ} {w : Written} (numbers : List ℕ) (checks : List Check) (bytes : List ℕ) → Writes short (decided (judged checks) bytes) before w after → is_one_of (Reply.success ∷ numbers) (number short) ≡ true → numbered (is_one_of (Reply.success ∷ numbers)) checks ≡ true → (w.reply ≡ Reply.success → ⊥) → Refused numbers before w after
refused {w = w} numbers checks bytes a full all refuses =
    let l = refusal_leaves a refuses in
    record {
      number = rw (ne_eqb w.reply Reply.success refuses) at (reply_by checks bytes a (is_one_of (Reply.success ∷ numbers)) refl full all);
      no_length = l.0;
      no_byte_changed = l.1;
    }

-- `tables::make_tables` and `ljosvark::lj_make_tables`
pub make_tables : TablesRefuse
unfolding tables_for
make_tables q before w after a refuses = refused of_tables (MakeTables.checks q) (tables_of q) a refl refl refuses

-- `sender::packet` and `ljosvark::lj_packet`
pub packet : SenderRefuses
unfolding sending
packet p size s k before w after a refuses = refused of_sender (Sending.checks p size k) (Packet.packet s p k (fragment_at (cuts size p) k)) a refl refl refuses

-- `builder::build` and `ljosvark::lj_build`
pub build : BuilderRefuses
unfolding building
build r area before w after a refuses = refused of_builder (Building.checks r area) (file_of r area) a refl refl refuses

-- `wire::read`, which is lent nothing to write
pub read : ReaderRefuses
read source packet r a = read_refused source packet (is_one_of of_reader) refl (sym a)

-- `state::open` and `ljosvark::lj_open`: 7, and a fresh receiver of room 0
pub opens : OpeningRefuses
opens source room o a refuses = split (is_room room)
    (λ e. absurd (refuses (ap (λ (x : Opened). x.answer.reply) a ∙ rw (opens-when source room (between 1 65536 room e)))))
    (λ e. a ∙ opens_not source room e)

-- `receiver::receive` and `ljosvark::lj_receive`: any reply but held and whole is again or a refusal
pub receive : ReceiverRefuses
receive r area p d after a not = by_decision r area p
    (λ n l decided.
    let left = when_left r area p decided in
    let given = a.answer ∙ left.0 in
    record {
      number = rw given (left_by r area p (is_one_of unchanging) (λ w. refl) (λ o. refl) refl (λ s. refl) l);
      count = rw given;
      receiver_handed_back = rw given;
      area_as_it_was = a.lent ∙ left.1;
    })
    (λ t. absurd (not (small_accepted d.answer (rw a.answer (reply_small r area p t)))))

-- So calls of which none is answered with held or whole leave receiver and area as they were, however many they are,
pub calls_unchanged : CallsLeaveAll
calls_unchanged x [] [] y c none = sym c
calls_unchanged x [] (a ∷ answered) y c none = absurd c
calls_unchanged x (p ∷ packets) [] y c none = absurd c
calls_unchanged x (p ∷ packets) (a ∷ answered) y c none =
    let z = c.0 in
    let u = receive x.receiver x.area p (record { answer = a; receiver = z.receiver }) z.area c.1 none.0 in
    calls_unchanged z packets answered y c.2 none.1 ∙ ap₂ state u.receiver_handed_back u.area_as_it_was

-- and so does `records::take` at the end of a stream, in a cut record, and with a packet that is not accepted.
pub take_record : RecordsLeaveAll
take_record r area bytes t after met none =
    let same = calls_unchanged (state r area) (packet_in (front bytes)) (answer_in t.came) (state t.receiver after) (take_calls r area bytes t after met) none in
    (ap (λ (x : State). x.receiver) same, ap (λ (x : State). x.area) same)

-- So does `records::take_next`, which takes the bytes that came.
pub take_next : NextRecordsLeaveAll
take_next left r area before buffer t unfailed after left_after next = take_record r area (take next.n buffer) t after next.takes
