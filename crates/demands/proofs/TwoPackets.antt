-- Pictures of two packets delivered backwards, with a repeat and with other packets between: what delivery asks of arrivals can be met,
-- and what provenance says of them. Assumes nothing.
use Rattle.std.proofs.Common.{inl, inr, sym, ap, ◌∙◌, arith}
use Rattle.std.specs.Prelude.{ℕ, zero, suc, ◌+◌, ◌≤◌, ◌<◌, true, [], ◌∷◌, ◌≡◌, refl, eqb, length, replicate}
use Rattle.fragments.specs.Fragments.{fragment_at}
use Rattle.laws.specs.Each.{Each}
use Rattle.laws.specs.Truth.{or_true}
use Rattle.laws.specs.Within.{within}
use Rattle.receiver.specs.Time.{ahead}
use Rattle.replies.specs.Checks.{judged}
use Rattle.replies.specs.Checks.{Passed}
use Rattle.sender.specs.Cuts.{cuts}
use Rattle.sender.specs.Packet as Sender
use Rattle.sender.specs.Picture.{Picture}
use Rattle.sender.specs.ReadBack.{Cut}
use Rattle.sender.specs.Sending.{checks}
use Rattle.state.specs.Receiver.{fresh}
use Rattle.wire.specs.Field.{Bytes}
use Rattle.wire.specs.Lawful.{lawful}
use Rattle.wire.specs.Rtp.{longest}
use Rattle.wire.specs.Tables.{has_table_header}
use Rattle.demands.proofs.BothSides.{both_sides}
use Rattle.demands.proofs.Demand3.{delivers, cut_packets, sent_delivery, packets_sent, whole_as_brought}
use Rattle.demands.proofs.History.{history}
use Rattle.demands.specs.BothSides.{plain}
use Rattle.demands.specs.Computing.{computes_sending, computes_step}
use Rattle.demands.specs.Delivery.{Packets, Awaited, Harmless, comes, Arrive}
use Rattle.demands.specs.History.{state, step, answers}
use Rattle.demands.specs.Transcript.{first, second}
use Rattle.demands.specs.TwoPackets.{older, foreign, area, before, stamp, arrivals, four, cs, in_transcript, came, time_in, Computed, sent_packet, TranscriptDelivered, TranscriptAsBrought, AnotherStartedLater, SentDelivered}

pub computed : Computed
unfolding computes_step
computed = record { foreign_read = refl; other_source_is_14 = refl; older_read = refl; bears = refl; holds = refl; lent = refl; replies = refl; second_held = refl; whole = refl; bytes = refl }

pub of_two : (P : ℕ → Type 0) → P 0 → P 1 → (k : ℕ) → k < 2 → P k
of_two P a b zero i = a
of_two P a b (suc zero) i = b
of_two P a b (suc (suc k)) i = absurd (omega arith)

awaited : (p : Picture) → p.header.q ≡ 50 → length p.scan ≤ 200 → Awaited stamp p before
unfolding ahead within
awaited p q fits = record {
  bears_the_source = sym computed.bears;
  newer_than_held = inr (rw computed.holds);
  fits_the_area = omega (arith, computed.lent);
  has_tables = inl (omega arith);
}

arrive : Arrive stamp 2 arrivals
unfolding ahead within
arrive = record {
  from_the_first = tt;
  every_packet = of_two (λ (k : ℕ). comes k arrivals ≡ true) refl refl;
  no_other = (omega arith, ((omega arith, refused), (omega arith, ((omega arith, past), (omega arith, (omega arith, tt))))));
}
  where
    refused : Harmless stamp foreign
    refused s e = let z : ◌≡◌ {A = ℕ} 0 1 = cc (computed.foreign_read, e) in absurd (omega arith)

    past : Harmless stamp older
    past s e = let t : s.time ≡ 999 = sym (ap time_in e) ∙ computed.older_read in (λ z. omega arith, rw t)

cut : Cut stamp four cs
unfolding computes_sending has_table_header
cut = record {
  sendable = record { header = lawful four.header refl; tables = refl; time = omega arith; source = omega arith };
  tiles = (refl, omega arith, refl, (refl, omega arith, refl, refl));
  few = omega arith;
  reach = omega arith;
  short = of_two (λ (k : ℕ). Sender.scan_begins four (fragment_at cs k) + (fragment_at cs k).length ≤ longest) (omega arith) (omega arith);
}

pub packets : Packets stamp four cs in_transcript
unfolding computes_sending
packets = cut_packets stamp four cs in_transcript cut tt (omega arith) (of_two (λ (k : ℕ). Sender.packet stamp four k (fragment_at cs k) ≡ in_transcript k) refl refl)

earlier : Each Bytes (older ∷ [])
earlier = let b : Bytes older = omega arith in (b, tt)

pub transcript_delivered : TranscriptDelivered
transcript_delivered = delivers step (λ x p. record { answer = refl; lent = refl }) 1 200 area (older ∷ []) (omega arith) refl earlier stamp four cs in_transcript arrivals packets (awaited four refl (omega arith)) arrive

-- Provenance on the same history, of two pictures: each byte was brought by a packet of the one that is held. The packet of the
-- earlier picture was accepted too, but not for this one, which was started later.
pub transcript_as_brought : TranscriptAsBrought
transcript_as_brought =
    let a : Bytes older = omega arith in
    let b : Bytes first = omega arith in
    let c : Bytes second = omega arith in
    let d : Bytes foreign = omega arith in
    whole_as_brought step (λ x p. record { answer = refl; lent = refl }) 1 200 area (older ∷ came) (omega arith) refl (a, (c, (d, (c, (a, (b, (c, tt))))))) computed.whole

pub another_started_later : AnotherStartedLater
unfolding ahead within
another_started_later none =
    let second-read = packets.read_back 1 (omega arith) in
    none.0 (record {
      accepted = inl computed.second_held;
      said = second-read.said;
      read = rw computed.bears second-read.read;
      starts_one = rw (second-read.time, computed.holds) (or_true (eqb before.receiver.picture 0));
    })

two : length (cuts 192 (plain 173)) ≡ 2
two = ap length both_sides.scan_173

passes : (k : ℕ) → k < 2 → judged (checks (plain 173) 192 k) ≡ Passed
unfolding computes_sending
passes = of_two (λ (k : ℕ). judged (checks (plain 173) 192 k) ≡ Passed) refl refl

all_bytes : (n : ℕ) → Bytes (replicate n 170)
all_bytes zero = tt
all_bytes (suc n) = (omega arith, all_bytes n)

pub sent_delivered : SentDelivered
sent_delivered =
    sent_delivery 1 200 (older ∷ []) (answers step (state (fresh 1 200) area) (older ∷ [])) before (history 1 200 area (older ∷ []) (omega arith) refl earlier)
    stamp (plain 173) 192 sent_packet arrivals
    (packets_sent stamp (plain 173) 192 (all_bytes 173) tt (omega arith) (omega arith) (λ k i. passes k (rw two at i)))
    (awaited (plain 173) refl (omega arith))
    (rw two arrive)
