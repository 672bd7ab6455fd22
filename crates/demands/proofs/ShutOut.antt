-- Useless builds are shut out: each fails, on a picture of two packets, one of the things asked. Assumes nothing.
use Rattle.std.proofs.Common.{inl, sym, ap, subst, ◌∙◌, arith}
use Rattle.std.specs.Prelude.{ℕ, ◌<◌, Bool, true, List, [], ◌∷◌, map, ◌≡◌, refl, length, get_or, replicate}
use Rattle.laws.specs.Each.{Each, each_parts}
use Rattle.laws.specs.Truth.{split}
use Rattle.receiver.proofs.Laws.{keeps_well_formed, held_formed, held_else, held_sum, answers_9}
use Rattle.receiver.specs.Picture.{starts}
use Rattle.receiver.specs.Step.{held, received}
use Rattle.receiver.specs.declared.Received.{Received}
use Rattle.replies.specs.Output.{fitted, answer_of, succeeded}
use Rattle.replies.specs.declared.Refusal.TheVariants as Refusal
use Rattle.replies.specs.declared.Written.{Written}
use Rattle.sender.specs.Sending.{sending}
use Rattle.state.specs.Receiver.{fresh}
use Rattle.state.specs.WellFormed.{well_formed}
use Rattle.state.specs.declared.Receiver.{Receiver}
use Rattle.wire.specs.Field.{Bytes}
use Rattle.wire.specs.declared.Packet.{Packet}
use Rattle.demands.proofs.History.{the_step}
use Rattle.demands.proofs.OtherFile.{no_file}
use Rattle.demands.proofs.Says.{brings_scan}
use Rattle.demands.proofs.TwoPackets.{packets, of_two}
use Rattle.demands.specs.BothSides.{plain}
use Rattle.demands.specs.Computing.{computes_file, computes_sending, computes_step}
use Rattle.demands.specs.Delivery.Arrival.{ours}
use Rattle.demands.specs.Delivery.{Awaited, Arrival, comes, Arrive, bytes_in, left_by, Delivered, Delivers}
use Rattle.demands.specs.History.{State, state, Outcome, step, after}
use Rattle.demands.specs.OtherFile.{no_front_ends_so}
use Rattle.demands.specs.Provenance.{Brings, WholeAsBrought}
use Rattle.demands.specs.Transcript.{first, second}
use Rattle.demands.specs.TwoPackets.{stamp, four, cs, in_transcript}
use Rattle.demands.specs.Useless.{CountsHeld, refusing, saying_held, never_writing, claiming, at_offset0}
use Rattle.demands.specs.ShutOut.{RefusingIsOut, SayingHeldIsOut, NeverWritingIsOut, ClaimingIsOut, ClaimedFilesAreOut, ConstantIsOut, InventedIsOut, CountByPacketIsOut, StepsCountHeld, SenderCutsAsSaid}

-- The picture of `Transcript`, whose two packets come in order to a fresh receiver.
abbrev start : State
start = state (fresh 1 4) (replicate 4 7)

abbrev arrivals : List Arrival
arrivals = ours 0 ∷ ours 1 ∷ []

awaited : Awaited stamp four start
awaited = record {
  bears_the_source = refl;
  newer_than_held = inl refl;
  fits_the_area = omega arith;
  has_tables = inl (omega arith);
}

arrive : Arrive stamp 2 arrivals
arrive = record {
  from_the_first = tt;
  every_packet = of_two (λ (k : ℕ). comes k arrivals ≡ true) refl refl;
  no_other = (omega arith, (omega arith, tt));
}

module _ (f : State → List ℕ → Outcome State) (delivers : Delivers f) where
  delivered : Delivered f four 2 in_transcript start arrivals
  delivered = delivers 1 4 (replicate 4 7) [] (omega arith) refl tt stamp four cs in_transcript arrivals packets awaited arrive

-- a receiver that refuses every packet, with whatever numbers, that of whole aside
pub refuses_all : RefusingIsOut
refuses_all number refusal d =
    let w = (delivered (refusing number) d).whole_once in
    refusal (left_by (refusing number) in_transcript start w.before) (in_transcript w.last) w.whole

-- one that answers every packet with held
pub says_held : SayingHeldIsOut
says_held f d = omega (arith, (delivered (saying_held f) d).whole_once.whole)

-- a step that never writes the area leaves it as it was
area_stays : (f : State → List ℕ → Outcome State) (x : State) (packets : List (List ℕ)) → (after (never_writing f) x packets).area ≡ x.area
area_stays f x [] = refl
area_stays f x (p ∷ packets) = area_stays f (never_writing f x p).left packets

-- What the two packets leave of `start` where the second is only claimed.
abbrev claimed : (Receiver → Packet → Bool) → State
claimed takes = after (claiming takes) start (first ∷ second ∷ [])

record Claimed (takes : Receiver → Packet → Bool) : Type 0 where
  area : (claimed takes).area ≡ 0xAA ∷ 0xBB ∷ 7 ∷ 7 ∷ []
  whole : (claimed takes).receiver.whole ≡ 1
  end : (claimed takes).receiver.end ≡ 4

-- What our sender answers when it is asked for packet k of a picture with a scan of 173 bytes, which it cuts in two.
abbrev asked_for : ℕ → Written
asked_for k = answer_of (fitted Refusal.PacketOutput (replicate 192 0) (sending (plain 173) 192 stamp k))

-- What the definitions come to.
record Computed : Type 0 where
  but_the_start : Claimed starts
  but_offset_0 : Claimed at_offset0
  half : no_front_ends_so (0xAA ∷ 0xBB ∷ 7 ∷ 7 ∷ []) ≡ true
  sevens : no_front_ends_so start.area ≡ true
  held_with_second : held (step start second).left.receiver ≡ 2
  held_with_both : held (step (step start first).left second).left.receiver ≡ 4
  packet_0 : asked_for 0 ≡ succeeded 192
  packet_1 : asked_for 1 ≡ succeeded 21

computed : Computed
unfolding computes_step computes_sending computes_file
computed = record {
  but_the_start = record { area = refl; whole = refl; end = refl };
  but_offset_0 = record { area = refl; whole = refl; end = refl };
  half = refl;
  sevens = refl;
  held_with_second = refl;
  held_with_both = refl;
  packet_0 = refl;
  packet_1 = refl;
}

-- one that writes nothing into the area, whatever it does else
pub never_writes : NeverWritingIsOut
never_writes f d =
    let same = area_stays f start (map (bytes_in in_transcript) arrivals) in
    no_file (left_by (never_writing f) in_transcript start arrivals) (ap length same) (ap no_front_ends_so same ∙ computed.sevens) (delivered (never_writing f) d).file

-- one that takes the first packet and only claims the others: byte 2 is none that a packet brought,
module _ (takes : Receiver → Packet → Bool) (c : Claimed takes) where
  byte_not_brought : WholeAsBrought (claiming takes) → ⊥
  byte_not_brought w =
      let bytes : Each Bytes (first ∷ second ∷ []) = let a : Bytes first = omega arith in let b : Bytes second = omega arith in (a, (b, tt)) in
      let b = (w 1 4 (replicate 4 7) (first ∷ second ∷ []) (omega arith) refl bytes c.whole).each_byte 2 (omega (arith, c.end)) in
      let brought = (each_parts Right b.before (b.packet ∷ b.later) (subst (Each Right) b.order (right 0 (omega arith), (right 1 (omega arith), tt)))).1.0 in
      omega (arith, brought (get_or (claimed takes).area 2 0) b.brings, ap (λ (l : List ℕ). get_or l 2 0) c.area)
    where
      Right : List ℕ → Type 0
      Right q = (v : ℕ) → Brings 1 q 2 v → v ≡ 0xCC

      right : (k : ℕ) → k < 2 → Right (in_transcript k)
      right k i v b = brings_scan packets k i 2 v b

  -- and the file has it in it
  file_not_theirs : Delivers (claiming takes) → ⊥
  file_not_theirs d = no_file (claimed takes) (ap length c.area) (ap no_front_ends_so c.area ∙ computed.half) (delivered (claiming takes) d).file

pub only_claims : ClaimingIsOut
only_claims = (byte_not_brought starts computed.but_the_start, byte_not_brought at_offset0 computed.but_offset_0)

pub only_claims_file : ClaimedFilesAreOut
only_claims_file = (file_not_theirs starts computed.but_the_start, file_not_theirs at_offset0 computed.but_offset_0)

-- a sender that gives the same for every index, whatever it gives: the first packet has 192 bytes, and the second 21
pub constant_sender : ConstantIsOut
constant_sender f c =
    let ask : (k : ℕ) → (f (plain 173) 192 stamp (replicate 192 0)).answer ≡ asked_for k = λ k. (c (plain 173) 192 stamp k (replicate 192 0)).answer in
    let differ : succeeded 192 ≡ succeeded 21 = sym (ask 0 ∙ computed.packet_0) ∙ ask 1 ∙ computed.packet_1 in
    omega (arith, ap (λ (w : Written). w.length) differ)

-- The receiver's own count is the sum of the held lengths.
counts_itself : CountsHeld step
counts_itself x p bytes =
    let r = x.receiver in
    split (well_formed r)
    (λ w. held_sum r x.area p w ∙ sym (held_formed (received r x.area p).receiver (keeps_well_formed r x.area p bytes w)))
    (λ w. let answered = answers_9 r x.area p w in
    ap (λ (d : Received). d.answer.held) answered ∙ sym (ap (λ (d : Received). held d.receiver) answered ∙ held_else r w))

-- one that answers a count other than the receiver's, for any packet in any state,
pub invented_count : InventedIsOut
invented_count count x p bytes differs c = differs (c x p bytes ∙ sym (counts_itself x p bytes))

-- and so one that is made up from the packet alone: with the second of the two, 2 bytes are held, or 4
pub count_by_packet : CountByPacketIsOut
count_by_packet count c =
    let bytes : Bytes second = omega arith in
    omega (arith, c start second bytes, computed.held_with_second, c (step start first).left second bytes, computed.held_with_both)

-- What is asked is met by whatever meets the contract of `receiver::receive` (`delivers` and `whole_as_brought` of `Demand3`, and the
-- count), and by a sender that gives what the contract of `sender::packet` says.
pub counts_held : StepsCountHeld
counts_held f met = subst CountsHeld (the_step f met) counts_itself

pub cuts_as_said : SenderCutsAsSaid
cuts_as_said p size s k before = record { answer = refl; output = refl }
