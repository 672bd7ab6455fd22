-- Pictures of two packets delivered backwards, with a repeat and with other packets between: what delivery asks of arrivals can be met,
-- and what provenance says of them. Assumes nothing.
use Rattle.std.specs.Prelude.{ℕ, List, [], ◌∷◌, map, ◌≡◌, length, get_or, take, replicate, Ok, Err}
use Rattle.fragments.specs.Fragments.{fragment_at}
use Rattle.fragments.specs.declared.Fragment.{Fragment}
use Rattle.replies.specs.Refusal.{number}
use Rattle.replies.specs.declared.Refusal.TheVariants as Refusal
use Rattle.sender.specs.Cuts.{cuts}
use Rattle.sender.specs.Packet as Sender
use Rattle.sender.specs.Picture.{Picture, picture}
use Rattle.sender.specs.declared.Stamp.{Stamp}
use Rattle.state.specs.Receiver.{fresh}
use Rattle.state.specs.declared.Answer.{Answer}
use Rattle.wire.specs.Reading.{Reading, reading}
use Rattle.demands.specs.BothSides.{plain}
use Rattle.demands.specs.Delivery.Arrival.{ours, other}
use Rattle.demands.specs.Delivery.{Arrival, bytes_in, Delivered}
use Rattle.demands.specs.History.{State, state, step, after, answers}
use Rattle.demands.specs.Transcript.{first, second}
use Rattle.demands.specs.Provenance.{NoneStarts, AsBrought}

-- A packet of an earlier time, and one of another source.
abbrev pub older : List ℕ
older = 0x80 ∷ 0x1A ∷ 0x00 ∷ 0x00 ∷ 0x00 ∷ 0x00 ∷ 0x03 ∷ 0xE7 ∷ 0x00 ∷ 0x00 ∷ 0x00 ∷ 0x01 ∷ 0x00 ∷ 0x00 ∷ 0x00 ∷ 0x00 ∷ 0x01 ∷ 0x32 ∷ 0x02 ∷ 0x02 ∷ 0xEE ∷ []

abbrev pub foreign : List ℕ
foreign = 0x80 ∷ 0x9A ∷ 0x00 ∷ 0x01 ∷ 0x00 ∷ 0x00 ∷ 0x03 ∷ 0xE8 ∷ 0x00 ∷ 0x00 ∷ 0x00 ∷ 0x02 ∷ 0x00 ∷ 0x00 ∷ 0x00 ∷ 0x02 ∷ 0x01 ∷ 0x32 ∷ 0x02 ∷ 0x02 ∷ 0xCC ∷ 0xDD ∷ []

-- A receiver that holds a part of an earlier picture, and a stamp of its source.
abbrev pub area : List ℕ
area = replicate 200 7

abbrev pub before : State
before = after step (state (fresh 1 200) area) (older ∷ [])

abbrev pub stamp : Stamp
stamp = record { start = 0; time = 1000; source = 1 }

-- The second packet, one of another source, the second again, a late one of the earlier picture, the first, the second again.
abbrev pub arrivals : List Arrival
arrivals = ours 1 ∷ other foreign ∷ ours 1 ∷ other older ∷ ours 0 ∷ ours 1 ∷ []

-- The picture of `Transcript`, its two cuts, and its packets as they stand there.
abbrev pub four : Picture
four = picture (record { kind = 1; q = 50; width = 2; height = 2; interval = 0 }) [] (0xAA ∷ 0xBB ∷ 0xCC ∷ 0xDD ∷ [])

abbrev pub cs : List Fragment
cs = record { offset = 0; length = 2; marker = 0 } ∷ record { offset = 2; length = 2; marker = 1 } ∷ []

abbrev pub in_transcript : ℕ → List ℕ
in_transcript k = get_or (first ∷ second ∷ []) k []

abbrev pub came : List (List ℕ)
came = map (bytes_in in_transcript) arrivals

-- The time stamp of a packet that is read, and 0 of one that is not.
abbrev pub time_in : Reading → ℕ
time_in (Err r) = 0
time_in (Ok s) = s.time

-- What the definitions come to here.
pub record Computed : Type 0 where
  pub foreign_read : reading 1 foreign ≡ Err Refusal.OtherSource
  pub other_source_is_14 : number Refusal.OtherSource ≡ 14
  pub older_read : time_in (reading 1 older) ≡ 999
  pub bears : before.receiver.source ≡ 1
  pub holds : before.receiver.time ≡ 999
  pub lent : length before.area ≡ 200
  pub replies : map (λ (a : Answer). a.reply) (answers step before came) ≡ 0 ∷ 14 ∷ 2 ∷ 22 ∷ 1 ∷ 22 ∷ []
  pub second_held : (step before second).answer.reply ≡ 0
  pub whole : (after step before came).receiver.whole ≡ 1
  pub bytes : take 4 (after step before came).area ≡ four.scan

-- And delivery of a picture with a scan of 173 bytes, which our sender cuts in two where packets are of 192 bytes.
abbrev pub sent_packet : ℕ → List ℕ
sent_packet k = Sender.packet stamp (plain 173) k (fragment_at (cuts 192 (plain 173)) k)

-- ---- what is proved

abbrev pub TranscriptDelivered : Type 0
TranscriptDelivered = Delivered step four 2 in_transcript before arrivals

abbrev pub SentDelivered : Type 0
SentDelivered = Delivered step (plain 173) (length (cuts 192 (plain 173))) sent_packet before arrivals

-- Provenance on the same history, of two pictures: each byte was brought by a packet of the one that is held. The packet of the
-- earlier picture was accepted too, but not for this one, which was started later.
abbrev pub TranscriptAsBrought : Type 0
TranscriptAsBrought = AsBrought step (state (fresh 1 200) area) (older ∷ came) (after step before came)

abbrev pub AnotherStartedLater : Type 0
AnotherStartedLater = NoneStarts step before came → ⊥
