-- Delivery and provenance: `Delivery` and `Provenance` say what they mean. Assumes nothing.
use Rattle.std.specs.Prelude.{ℕ, ◌^◌, ◌<◌, List, [], ◌∷◌, ◌++◌, ◌≡◌, length, take}
use Rattle.builder.specs.Building.{Builds, file_of}
use Rattle.fragments.specs.Fragments.{fragment_at}
use Rattle.fragments.specs.declared.Fragment.{Fragment}
use Rattle.receiver.specs.Step.{Receives}
use Rattle.replies.specs.Checks.{judged}
use Rattle.replies.specs.Reply
use Rattle.replies.specs.Checks.{Passed}
use Rattle.replies.specs.declared.Written.{Written}
use Rattle.sender.specs.Cuts.{cuts}
use Rattle.sender.specs.Packet.{packet}
use Rattle.sender.specs.Picture.{Picture}
use Rattle.sender.specs.ReadBack.{Cut}
use Rattle.sender.specs.Sending.{checks}
use Rattle.sender.specs.declared.Stamp.{Stamp}
use Rattle.state.specs.Receiver.{fresh}
use Rattle.state.specs.declared.Answer.{Answer}
use Rattle.wire.specs.Field.{Bytes}
use Rattle.demands.specs.Delivery.{Packets, FromSender, Awaited, Arrival, Arrive, Delivered, Delivers}
use Rattle.demands.specs.History.{State, state, History, Outcome, step, MeetsContract}
use Rattle.demands.specs.Provenance.{AsBrought, WholeAsBrought}

-- and they are delivered.
abbrev pub SentDelivery : Type 0
SentDelivery =
    (source room : ℕ) (earlier : List (List ℕ)) (answered : List Answer) (x : State) → History source room earlier answered x
    → (s : Stamp) (p : Picture) (size : ℕ) (packet : ℕ → List ℕ) (arrivals : List Arrival)
    → FromSender s p size packet → Awaited s p x → Arrive s (length (cuts size p)) arrivals → Delivered step p (length (cuts size p)) packet x arrivals

-- After any history of calls that meet their contract, however the picture is cut.
abbrev pub CutDelivery : Type 0
CutDelivery =
    (source room : ℕ) (earlier : List (List ℕ)) (answered : List Answer) (x : State) → History source room earlier answered x
    → (s : Stamp) (p : Picture) (cs : List Fragment) (packet : ℕ → List ℕ) (arrivals : List Arrival)
    → Packets s p cs packet → Awaited s p x → Arrive s (length cs) arrivals → Delivered step p (length cs) packet x arrivals

abbrev pub StepsDeliver : Type 0
StepsDeliver = (f : State → List ℕ → Outcome State) → MeetsContract f → Delivers f

-- Packets as our sender makes them are such packets, however the scan is cut,
abbrev pub CutPackets : Type 0
CutPackets = (s : Stamp) (p : Picture) (cs : List Fragment) (packets : ℕ → List ℕ) → Cut s p cs → Bytes p.tables → Bytes p.scan → ((k : ℕ) → k < length cs → packet s p k (fragment_at cs k) ≡ packets k) → Packets s p cs packets

-- There are packets from our sender of every picture that it takes: each asked for with an output as long as it is.
abbrev pub PacketsSent : Type 0
PacketsSent =
    (s : Stamp) (p : Picture) (size : ℕ) → Bytes p.scan → Bytes p.tables → s.time < 2 ^ 32 → s.source < 2 ^ 32
    → ((k : ℕ) → k < length (cuts size p) → judged (checks p size k) ≡ Passed) → FromSender s p size (λ (k : ℕ). packet s p k (fragment_at (cuts size p) k))

-- After any history of calls that meet their contract,
abbrev pub HistoriesAsBrought : Type 0
HistoriesAsBrought = (source room : ℕ) (packets : List (List ℕ)) (answered : List Answer) (x : State) (h : History source room packets answered x) → x.receiver.whole ≡ 1 → AsBrought step (state (fresh source room) h.area) packets x

abbrev pub StepsAsBrought : Type 0
StepsAsBrought = (f : State → List ℕ → Outcome State) → MeetsContract f → WholeAsBrought f

-- so what a call leaves that answers whole is as brought,
abbrev pub ToldAsBrought : Type 0
ToldAsBrought =
    (source room : ℕ) (packets : List (List ℕ)) (answered : List Answer) (x : State) (h : History source room packets answered x) (p : List ℕ) (a : Answer) (z : State)
    → Bytes p → Receives x.receiver x.area p (record { answer = a; receiver = z.receiver }) z.area → a.reply ≡ Reply.whole
    → AsBrought step (state (fresh source room) h.area) (packets ++ (p ∷ [])) z

-- and so is the picture of a file that `build` has then written with success.
abbrev pub ShownAsBrought : Type 0
ShownAsBrought =
    (source room : ℕ) (packets : List (List ℕ)) (answered : List Answer) (x : State) (h : History source room packets answered x) (output : List ℕ) (w : Written) (built : List ℕ)
    → Builds x.receiver x.area output w built → w.reply ≡ Reply.success
    → AsBrought step (state (fresh source room) h.area) packets x × (take w.length built ≡ file_of x.receiver x.area)
