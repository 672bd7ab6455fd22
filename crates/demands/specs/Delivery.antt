-- Demand 3, delivery: what is asked of what arrives, and what then holds. Definitions alone; `Demand3` has the theorems. Assumes
-- nothing.
use Rattle.std.specs.Prelude.{ℕ, ◌^◌, ◌≤◌, ◌<◌, Bool, true, false, cond, not, List, [], ◌∷◌, ◌++◌, map, ◌⊎◌, ◌≡◌, eqb, length, take, Ok}
use Rattle.builder.specs.Building.{Builds, frame_for}
use Rattle.builder.specs.Built.{WritesFile}
use Rattle.fragments.specs.Fragments.{fragment_at}
use Rattle.fragments.specs.Tiles.{Tiles}
use Rattle.fragments.specs.declared.Fragment.{Fragment}
use Rattle.laws.specs.Any.{any}
use Rattle.laws.specs.Each.{Each}
use Rattle.laws.specs.Within.{within, Between}
use Rattle.receiver.specs.Time.{is_newer}
use Rattle.replies.specs.Reply
use Rattle.replies.specs.declared.Written.{Written}
use Rattle.sender.specs.Cuts.{cuts}
use Rattle.sender.specs.Picture.{Picture}
use Rattle.sender.specs.ReadBack.{Sendable, ReadBack}
use Rattle.sender.specs.Sending.{Sends}
use Rattle.sender.specs.declared.Stamp.{Stamp}
use Rattle.state.specs.Receiver.{fresh}
use Rattle.tables.specs.Quantiser.{tables_of}
use Rattle.wire.specs.Field.{Bytes}
use Rattle.wire.specs.Reading.{reading}
use Rattle.wire.specs.declared.Packet.{Packet}
use Rattle.demands.specs.History.{State, state, NotAccepted, Outcome, after}

-- ---- what arrives

-- The packets of one picture, whoever has cut it and however: its cuts, at most 64, tile the scan; and from packet k a reader of its
-- source reads cut k of the scan, the picture's time stamp and header fields, and from the first its tables.
pub record Packets (s : Stamp) (p : Picture) (cs : List Fragment) (packet : ℕ → List ℕ) : Type 0 where
  pub sendable : Sendable s p
  pub tile : Tiles 0 cs (length p.scan)
  pub few : length cs ≤ 64
  pub read_back : (k : ℕ) → k < length cs → ReadBack s p (fragment_at cs k) (packet k)
  pub bytes : (k : ℕ) → k < length cs → Bytes (packet k)

-- "Every packet of one picture from our sender": packet k is what a call of `sender::packet` or of `ljosvark::lj_packet` wrote for
-- index k, with reply 0. Scan and tables are bytes, and a stamp's time and source have 32 bits.
pub record WrittenBySender (s : Stamp) (p : Picture) (size k : ℕ) (bytes : List ℕ) : Type 0 where
  pub output : List ℕ
  pub answer : Written
  pub left : List ℕ
  pub sends : Sends p size s k output answer left
  pub with_reply_0 : answer.reply ≡ Reply.success
  pub written : bytes ≡ take answer.length left

pub record FromSender (s : Stamp) (p : Picture) (size : ℕ) (packet : ℕ → List ℕ) : Type 0 where
  pub scan : Bytes p.scan
  pub tables : Bytes p.tables
  pub time : s.time < 2 ^ 32
  pub source : s.source < 2 ^ 32
  pub each : (k : ℕ) → k < length (cuts size p) → WrittenBySender s p size k (packet k)

-- "has Q 1 to 99 or brings its tables"
abbrev pub brings_tables : Picture → Bool
brings_tables p = not (eqb (length p.tables) 0)

abbrev pub HasTables : Picture → Type 0
HasTables p = Between 1 99 p.header.q ⊎ (brings_tables p ≡ true)

-- "The picture bears the receiver's source, is newer than the picture held, if any, fits the area, and has Q 1 to 99 or brings its
-- tables", when the first of its packets comes to the state x.
pub record Awaited (s : Stamp) (p : Picture) (x : State) : Type 0 where
  pub bears_the_source : s.source ≡ x.receiver.source
  pub newer_than_held : (x.receiver.picture ≡ 0) ⊎ (is_newer s.time x.receiver.time ≡ true)
  pub fits_the_area : length p.scan ≤ length x.area
  pub has_tables : HasTables p

-- A packet that comes: packet k of the picture, or another one.
pub data Arrival : Type 0 where
  ours : ℕ → Arrival
  other : List ℕ → Arrival

-- "No other packet of that time or a newer one arrives from that source": a reader of that source does not read any other packet as one.
-- What it refuses may be anything.
abbrev pub Harmless : Stamp → List ℕ → Type 0
Harmless s q = (said : Packet) → reading s.source q ≡ Ok said → (said.time ≡ s.time → ⊥) × (is_newer said.time s.time ≡ false)

-- What may come for a picture of n packets.
abbrev pub Allowed : Stamp → ℕ → Arrival → Type 0
Allowed s n (ours k) = k < n
Allowed s n (other q) = Bytes q × Harmless s q

abbrev pub is_packet : ℕ → Arrival → Bool
is_packet k (ours j) = eqb k j
is_packet k (other q) = false

-- Packet k has come, once or more often.
abbrev pub comes : ℕ → List Arrival → Bool
comes k arrivals = any (is_packet k) arrivals

abbrev pub BeginsWithOurs : List Arrival → Type 0
BeginsWithOurs [] = ⊥
BeginsWithOurs (ours k ∷ arrivals) = Unit {0}
BeginsWithOurs (other q ∷ arrivals) = ⊥

-- "Let every packet of one picture … arrive, in any order and repeated at will. … Once the first has come, no other packet of that
-- time or a newer one arrives from that source."
pub record Arrive (s : Stamp) (n : ℕ) (arrivals : List Arrival) : Type 0 where
  pub from_the_first : BeginsWithOurs arrivals
  pub every_packet : (k : ℕ) → k < n → comes k arrivals ≡ true
  pub no_other : Each (Allowed s n) arrivals

-- ---- what then holds

abbrev pub bytes_in : (ℕ → List ℕ) → Arrival → List ℕ
bytes_in packet (ours k) = packet k
bytes_in packet (other q) = q

-- Of any step that takes packets one by one.
module _ {S : Type 0} (step : S → List ℕ → Outcome S) where
  -- The packet q is not accepted, and changes nothing.
  abbrev pub LeavesAll : S → List ℕ → Type 0
  LeavesAll x q = NotAccepted (step x q).answer × ((step x q).left ≡ x)

  module _ (packet : ℕ → List ℕ) where
    -- What arrivals leave of x, and what packet k then gives.
    abbrev pub left_by : S → List Arrival → S
    left_by x arrivals = after step x (map (bytes_in packet) arrivals)

    abbrev pub behind : S → List Arrival → ℕ → Outcome S
    behind x arrivals k = step (left_by x arrivals) (packet k)

    -- "Then 'whole' is answered once, at the packet that fills the last gap": all the others have come before it, and it has not.
    -- Wherever packet k stands before that, behind some arrivals, the reply is again if it is among these, and held if not; wherever
    -- it stands later, past. No other packet changes anything, and what the last one leaves stays.
    pub record WholeOnce (n : ℕ) (x : S) (arrivals : List Arrival) : Type 0 where
      pub before : List Arrival
      pub last : ℕ
      pub late : List Arrival
      pub order : arrivals ≡ before ++ (ours last ∷ late)
      pub last_gap : comes last before ≡ false
      pub no_other_gap : (k : ℕ) → k < n → (k ≡ last → ⊥) → comes k before ≡ true
      pub held_or_again : (a b : List Arrival) (k : ℕ) → before ≡ a ++ (ours k ∷ b) → (behind x a k).answer.reply ≡ cond (comes k a) Reply.again Reply.held
      pub whole : (behind x before last).answer.reply ≡ Reply.whole
      pub past : (a b : List Arrival) (k : ℕ) → late ≡ a ++ (ours k ∷ b) → (behind x (before ++ (ours last ∷ a)) k).answer.reply ≡ Reply.past
      pub others : (a b : List Arrival) (q : List ℕ) → arrivals ≡ a ++ (other q ∷ b) → LeavesAll (left_by x a) q
      pub stays : left_by x arrivals ≡ (behind x before last).left

-- "those tables": as made for Q 1 to 99, else those that the picture brings
abbrev pub those_tables : Picture → List ℕ
those_tables p = cond (within 1 99 p.header.q) (tables_of p.header.q) p.tables

-- "and the file holds that scan and those tables": whatever `build` is lent to write into, if it is long enough.
abbrev pub FileHolds : Picture → State → Type 0
FileHolds p x = (output : List ℕ) (w : Written) (built : List ℕ) → Builds x.receiver x.area output w built → WritesFile (frame_for p.header) (those_tables p) p.scan output w built

-- Delivered by a step, from a state on.
pub record Delivered (step : State → List ℕ → Outcome State) (p : Picture) (n : ℕ) (packet : ℕ → List ℕ) (x : State) (arrivals : List Arrival) : Type 0 where
  pub whole_once : WholeOnce step packet n x arrivals
  pub file : FileHolds p (left_by step packet x arrivals)

-- The demand, of any step: from open on, after any packets of bytes, every picture that is awaited then and arrives is delivered.
abbrev pub Delivers : (State → List ℕ → Outcome State) → Type 0
Delivers step =
    (source room : ℕ) (area : List ℕ) (earlier : List (List ℕ))
    → Between 1 65536 room
    → length area ≡ room
    → Each Bytes earlier
    → (s : Stamp) (p : Picture) (cs : List Fragment) (packet : ℕ → List ℕ) (arrivals : List Arrival)
    → Packets s p cs packet
    → Awaited s p (after step (state (fresh source room) area) earlier)
    → Arrive s (length cs) arrivals
    → Delivered step p (length cs) packet (after step (state (fresh source room) area) earlier) arrivals
