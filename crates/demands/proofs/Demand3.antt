-- Delivery and provenance: `Delivery` and `Provenance` say what they mean. Assumes nothing.
use Rattle.std.proofs.Common.{sym, ap, subst, ◌∙◌, arith}
use Rattle.std.proofs.Math.Seq.{take-append_seam}
use Rattle.std.specs.Prelude.{ℕ, ◌<◌, true, List, [], ◌∷◌, ◌++◌, ◌≡◌, refl, length, drop}
use Rattle.builder.specs.Built.{success_built}
use Rattle.fragments.specs.Fragments.{fragment_at}
use Rattle.fragments.specs.Tiles.{tiles_inside}
use Rattle.fragments.specs.declared.Fragment.{Fragment}
use Rattle.receiver.proofs.Laws.{whole_flagged}
use Rattle.receiver.specs.Step.{received}
use Rattle.receiver.specs.declared.Received.{Received}
use Rattle.replies.specs.Output.{succeeded, writes_all}
use Rattle.sender.specs.Cuts.{cuts}
use Rattle.sender.specs.Packet.{packet}
use Rattle.sender.specs.PacketBytes.{packet_bytes}
use Rattle.sender.specs.Picture.{Picture}
use Rattle.sender.specs.ReadBack.{ReadBack, cut_read_back}
use Rattle.sender.specs.Sending.{sending}
use Rattle.sender.specs.Sent.{Sent, sent, sent_cut}
use Rattle.sender.specs.declared.Stamp.{Stamp}
use Rattle.state.specs.Opening.{fresh_well_formed}
use Rattle.state.specs.Receiver.{fresh}
use Rattle.state.specs.WellFormed.{well_formed}
use Rattle.state.specs.declared.Receiver.{Receiver}
use Rattle.wire.specs.Field.{Bytes}
use Rattle.demands.proofs.Arrivals.{first_index, whole_once}
use Rattle.demands.proofs.Arrived.{other_comes}
use Rattle.demands.proofs.FirstToCome.{beginning, first_comes}
use Rattle.demands.proofs.History.{the_step, history}
use Rattle.demands.proofs.OneMore.{one_comes}
use Rattle.demands.proofs.Origin.{as_brought}
use Rattle.demands.proofs.Reachable.{its_room, its_steps, reachable, one_call_more}
use Rattle.demands.proofs.Whole.{file_holds}
use Rattle.demands.specs.Arrived.{arrived, Ok}
use Rattle.demands.specs.Delivery.{Packets, FromSender, Awaited, Arrival, Arrive, FileHolds, Delivered, Delivers}
use Rattle.demands.specs.History.{State, state, step, after, answers}
use Rattle.demands.specs.Provenance.{AsBrought, WholeAsBrought}
use Rattle.demands.specs.Demand3.{CutDelivery, StepsDeliver, CutPackets, SentDelivery, PacketsSent, StepsAsBrought, HistoriesAsBrought, ToldAsBrought, ShownAsBrought}

-- from any well-formed receiver with an area as long as its room
delivered : (s : Stamp) (p : Picture) (cs : List Fragment) (packet : ℕ → List ℕ) (x : State) (arrivals : List Arrival)
    → well_formed x.receiver ≡ true → length x.area ≡ x.receiver.room
    → Packets s p cs packet → Awaited s p x → Arrive s (length cs) arrivals → Delivered step p (length cs) packet x arrivals
delivered s p cs packet x arrivals well lent ps awaited arrive =
    let g = beginning ps awaited lent in
    let t = whole_once step packet (arrived g) (Ok g) s (length cs)
    (λ come ok. ok.0)
    (λ come ok k i. one_comes g come ok k i)
    (λ come ok q bytes harmless. other_comes g come ok q bytes harmless)
    x (λ k i. first_comes ps awaited lent well k i) arrivals arrive in
    record {
      whole_once = t.0;
      file = subst (FileHolds p) (sym t.1.3) (file_holds g t.1.0 t.1.1 t.1.2 some);
    }
  where
    some : 0 < length p.scan
    some =
        let k = first_index s (length cs) arrivals arrive in
        let i = tiles_inside 0 cs (length p.scan) k.0 ps.tile k.1 in
        omega (arith, i.some, i.to)

-- After any history of calls that meet their contract, however the picture is cut.
pub delivery : CutDelivery
delivery source room earlier answered x h s p cs packet arrivals =
    let r = reachable source room earlier answered x h in
    delivered s p cs packet x arrivals r.formed (r.as_long_as_the_room ∙ sym r.room_stays)

-- So the receiver's step delivers, and with it whatever meets the contract of `receiver::receive`.
delivers_itself : Delivers step
delivers_itself source room area earlier range long bytes =
    let x = state (fresh source room) area in
    delivery source room earlier (answers step x earlier) (after step x earlier) (history source room area earlier range long bytes)

pub delivers : StepsDeliver
delivers f met = subst Delivers (the_step f met) delivers_itself

-- Packets as our sender makes them are such packets, however the scan is cut,
pub cut_packets : CutPackets
cut_packets s p cs packets cut tables scan same = record {
  sendable = cut.sendable;
  tile = cut.tiles;
  few = cut.few;
  read_back = λ k i. subst (ReadBack s p (fragment_at cs k)) (same k i) (cut_read_back cut k i);
  bytes = λ k i. subst Bytes (same k i) (packet_bytes s p k (fragment_at cs k) cut.sendable.header tables scan (tiles_inside 0 cs (length p.scan) k cut.tiles i).marker);
}

-- so those that it has written are,
from_sender : (s : Stamp) (p : Picture) (size : ℕ) (packets : ℕ → List ℕ) → FromSender s p size packets → (k : ℕ) → k < length (cuts size p) → Packets s p (cuts size p) packets
from_sender s p size packets f k i =
    cut_packets s p (cuts size p) packets (sent_cut s p size k (call k i).ok f.time f.source) f.tables f.scan
    (λ j within. sym ((f.each j within).written ∙ (call j within).front))
  where
    call : (j : ℕ) (within : j < length (cuts size p)) → Sent p size s j (f.each j within).answer (f.each j within).left
    call j within = let c = f.each j within in sent p size s j c.sends c.with_reply_0

-- and they are delivered.
pub sent_delivery : SentDelivery
sent_delivery source room earlier answered x h s p size packet arrivals f awaited arrive =
    let k = first_index s (length (cuts size p)) arrivals arrive in
    delivery source room earlier answered x h s p (cuts size p) packet arrivals (from_sender s p size packet f k.0 k.1) awaited arrive

-- There are packets from our sender of every picture that it takes: each asked for with an output as long as it is.
pub packets_sent : PacketsSent
unfolding sending
packets_sent s p size scan tables time source passed = record {
  scan = scan;
  tables = tables;
  time = time;
  source = source;
  each = λ k i. let bytes = packet s p k (fragment_at (cuts size p) k) in
      record {
        output = bytes;
        answer = succeeded (length bytes);
        left = bytes ++ drop (length bytes) bytes;
        sends = rw (passed k i) (writes_all (length bytes) refl (omega arith) refl refl);
        with_reply_0 = refl;
        written = sym (take-append_seam bytes (drop (length bytes) bytes));
      };
}

-- The last sentence, of the receiver's step, and with it of whatever meets the contract of `receiver::receive`.
as_brought_itself : WholeAsBrought step
as_brought_itself source room area packets range long bytes whole = as_brought (state (fresh source room) area) packets (fresh_well_formed source room range) long (omega arith) refl bytes whole

pub whole_as_brought : StepsAsBrought
whole_as_brought f met = subst WholeAsBrought (the_step f met) as_brought_itself

-- After any history of calls that meet their contract,
pub provenance : HistoriesAsBrought
provenance source room packets answered x h whole =
    let left = (its_steps h).1 in
    subst (AsBrought step (state (fresh source room) h.area) packets) (sym left)
    (as_brought_itself source room h.area packets (its_room h) h.as_long_as_the_room h.bytes (ap (λ (y : State). y.receiver.whole) (sym left) ∙ whole))

-- so what a call leaves that answers whole is as brought,
pub told_as_brought : ToldAsBrought
unfolding one_call_more
told_as_brought source room packets answered x h p a z bytes receives told =
    let left : z.receiver ≡ (received x.receiver x.area p).receiver = ap (λ (d : Received). d.receiver) receives.answer in
    let reply = sym (ap (λ (d : Received). d.answer.reply) receives.answer) ∙ told in
    let flagged = whole_flagged x.receiver x.area p bytes (reachable source room packets answered x h).formed reply in
    provenance source room (packets ++ (p ∷ [])) (answered ++ (a ∷ [])) z (one_call_more h p a z bytes receives) (ap (λ (r : Receiver). r.whole) left ∙ flagged)

-- and so is the picture of a file that `build` has then written with success.
pub shown : ShownAsBrought
shown source room packets answered x h output w built builds success =
    let t = success_built x.receiver x.area builds success in
    (provenance source room packets answered x h (t.0.well.whole ∙ rw t.0.whole), t.2)
