-- What each refusal is answered as: its number. Assumes nothing.
use Rattle.std.specs.Prelude.{ℕ, ◌≡◌, refl, eqb, cond, false, Result, MatchResult}
use Rattle.std.proofs.Common.{sym, ap, ◌∙◌}
use Rattle.replies.specs.Reply
use Rattle.replies.specs.declared.Refusal.{Refusal}
use Rattle.replies.specs.declared.Refusal.TheVariants
use Rattle.replies.specs.declared.NoRefusal.{NoRefusal}

abbrev pub number : Refusal → ℕ
number TheVariants.Again = Reply.again
number TheVariants.RoomOutside = Reply.room_outside
number TheVariants.AreaNotRoom = Reply.area_not_room
number TheVariants.NotWellFormed = Reply.not_well_formed
number TheVariants.TooShort = Reply.too_short
number TheVariants.TooLong = Reply.too_long
number TheVariants.OtherVersion = Reply.other_version
number TheVariants.OtherPayload = Reply.other_payload
number TheVariants.OtherSource = Reply.other_source
number TheVariants.OtherType = Reply.other_type
number TheVariants.OtherTypeSpecific = Reply.other_type_specific
number TheVariants.QReserved = Reply.q_reserved
number TheVariants.SideZero = Reply.side_zero
number TheVariants.IntervalZero = Reply.interval_zero
number TheVariants.TableRule = Reply.table_rule
number TheVariants.NoScan = Reply.no_scan
number TheVariants.Past = Reply.past
number TheVariants.Unlike = Reply.unlike
number TheVariants.Beyond = Reply.beyond
number TheVariants.Clash = Reply.clash
number TheVariants.Full = Reply.full
number TheVariants.Bare = Reply.bare
number TheVariants.NotWhole = Reply.not_whole
number TheVariants.FileOutput = Reply.file_output
number TheVariants.QNotMade = Reply.q_not_made
number TheVariants.TablesOutput = Reply.tables_output
number TheVariants.Parameters = Reply.parameters
number TheVariants.ScanLength = Reply.scan_length
number TheVariants.PacketSize = Reply.packet_size
number TheVariants.SentTables = Reply.sent_tables
number TheVariants.Over64Packets = Reply.over_64_packets
number TheVariants.IndexTooLarge = Reply.index_too_large
number TheVariants.PacketOutput = Reply.packet_output

-- The outcome of `Refusal::number`.
abbrev pub HasNumber : Refusal → ℕ → Type 0
HasNumber r n = n ≡ number r

-- The outcome of `Refusal::try_from`: the refusal that has this number, or an error where none has it.
abbrev pub Decodes : ℕ → Result Refusal NoRefusal → Type 0
Decodes n outcome = MatchResult outcome (λ r. number r ≡ n) (λ e. (e.0 ≡ n) × ((r : Refusal) → number r ≡ n → ⊥))

-- ---- laws

-- The refusal that a number is of, so that no two have the same.
of_number : ℕ → Refusal
of_number n =
    cond (eqb n 2) TheVariants.Again (
    cond (eqb n 7) TheVariants.RoomOutside (
    cond (eqb n 8) TheVariants.AreaNotRoom (
    cond (eqb n 9) TheVariants.NotWellFormed (
    cond (eqb n 10) TheVariants.TooShort (
    cond (eqb n 11) TheVariants.TooLong (
    cond (eqb n 12) TheVariants.OtherVersion (
    cond (eqb n 13) TheVariants.OtherPayload (
    cond (eqb n 14) TheVariants.OtherSource (
    cond (eqb n 15) TheVariants.OtherType (
    cond (eqb n 16) TheVariants.OtherTypeSpecific (
    cond (eqb n 17) TheVariants.QReserved (
    cond (eqb n 18) TheVariants.SideZero (
    cond (eqb n 19) TheVariants.IntervalZero (
    cond (eqb n 20) TheVariants.TableRule (
    cond (eqb n 21) TheVariants.NoScan (
    cond (eqb n 22) TheVariants.Past (
    cond (eqb n 23) TheVariants.Unlike (
    cond (eqb n 24) TheVariants.Beyond (
    cond (eqb n 25) TheVariants.Clash (
    cond (eqb n 26) TheVariants.Full (
    cond (eqb n 27) TheVariants.Bare (
    cond (eqb n 30) TheVariants.NotWhole (
    cond (eqb n 31) TheVariants.FileOutput (
    cond (eqb n 34) TheVariants.QNotMade (
    cond (eqb n 35) TheVariants.TablesOutput (
    cond (eqb n 40) TheVariants.Parameters (
    cond (eqb n 41) TheVariants.ScanLength (
    cond (eqb n 42) TheVariants.PacketSize (
    cond (eqb n 43) TheVariants.SentTables (
    cond (eqb n 44) TheVariants.Over64Packets (
    cond (eqb n 45) TheVariants.IndexTooLarge (
    TheVariants.PacketOutput))))))))))))))))))))))))))))))))

back : (r : Refusal) → of_number (number r) ≡ r
unfolding of_number
back TheVariants.Again = refl
back TheVariants.RoomOutside = refl
back TheVariants.AreaNotRoom = refl
back TheVariants.NotWellFormed = refl
back TheVariants.TooShort = refl
back TheVariants.TooLong = refl
back TheVariants.OtherVersion = refl
back TheVariants.OtherPayload = refl
back TheVariants.OtherSource = refl
back TheVariants.OtherType = refl
back TheVariants.OtherTypeSpecific = refl
back TheVariants.QReserved = refl
back TheVariants.SideZero = refl
back TheVariants.IntervalZero = refl
back TheVariants.TableRule = refl
back TheVariants.NoScan = refl
back TheVariants.Past = refl
back TheVariants.Unlike = refl
back TheVariants.Beyond = refl
back TheVariants.Clash = refl
back TheVariants.Full = refl
back TheVariants.Bare = refl
back TheVariants.NotWhole = refl
back TheVariants.FileOutput = refl
back TheVariants.QNotMade = refl
back TheVariants.TablesOutput = refl
back TheVariants.Parameters = refl
back TheVariants.ScanLength = refl
back TheVariants.PacketSize = refl
back TheVariants.SentTables = refl
back TheVariants.Over64Packets = refl
back TheVariants.IndexTooLarge = refl
back TheVariants.PacketOutput = refl

pub told_apart : {r r' : Refusal} → number r ≡ number r' → r ≡ r'
told_apart {r} {r'} e = sym (back r) ∙ (ap of_number e ∙ back r')

pub never_success : (r : Refusal) → eqb (number r) Reply.success ≡ false
never_success TheVariants.Again = refl
never_success TheVariants.RoomOutside = refl
never_success TheVariants.AreaNotRoom = refl
never_success TheVariants.NotWellFormed = refl
never_success TheVariants.TooShort = refl
never_success TheVariants.TooLong = refl
never_success TheVariants.OtherVersion = refl
never_success TheVariants.OtherPayload = refl
never_success TheVariants.OtherSource = refl
never_success TheVariants.OtherType = refl
never_success TheVariants.OtherTypeSpecific = refl
never_success TheVariants.QReserved = refl
never_success TheVariants.SideZero = refl
never_success TheVariants.IntervalZero = refl
never_success TheVariants.TableRule = refl
never_success TheVariants.NoScan = refl
never_success TheVariants.Past = refl
never_success TheVariants.Unlike = refl
never_success TheVariants.Beyond = refl
never_success TheVariants.Clash = refl
never_success TheVariants.Full = refl
never_success TheVariants.Bare = refl
never_success TheVariants.NotWhole = refl
never_success TheVariants.FileOutput = refl
never_success TheVariants.QNotMade = refl
never_success TheVariants.TablesOutput = refl
never_success TheVariants.Parameters = refl
never_success TheVariants.ScanLength = refl
never_success TheVariants.PacketSize = refl
never_success TheVariants.SentTables = refl
never_success TheVariants.Over64Packets = refl
never_success TheVariants.IndexTooLarge = refl
never_success TheVariants.PacketOutput = refl
