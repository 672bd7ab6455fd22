-- Useless builds are shut out: each fails, on a picture of two packets, one of the things asked. Assumes nothing.
use Rattle.std.specs.Prelude.{ℕ, List, ◌≡◌}
use Rattle.receiver.specs.Picture.{starts}
use Rattle.replies.specs.Output.{fitted, answer_of, output_of}
use Rattle.replies.specs.Reply
use Rattle.replies.specs.declared.Refusal.TheVariants as Refusal
use Rattle.sender.specs.Picture.{Picture}
use Rattle.sender.specs.Sending.{sending}
use Rattle.sender.specs.declared.Stamp.{Stamp}
use Rattle.wire.specs.Field.{Bytes}
use Rattle.demands.specs.Delivery.{Delivers}
use Rattle.demands.specs.History.{State, Outcome, step, MeetsContract}
use Rattle.demands.specs.Provenance.{WholeAsBrought}
use Rattle.demands.specs.Useless.{CountsHeld, Gave, CutsAsSaid, refusing, saying_held, never_writing, claiming, at_offset0, inventing, constant}

-- a receiver that refuses every packet, with whatever numbers, that of whole aside
abbrev pub RefusingIsOut : Type 0
RefusingIsOut = (number : State → List ℕ → ℕ) → ((x : State) (p : List ℕ) → number x p ≡ Reply.whole → ⊥) → Delivers (refusing number) → ⊥

-- one that answers every packet with held
abbrev pub SayingHeldIsOut : Type 0
SayingHeldIsOut = (f : State → List ℕ → Outcome State) → Delivers (saying_held f) → ⊥

-- one that writes nothing into the area, whatever it does else
abbrev pub NeverWritingIsOut : Type 0
NeverWritingIsOut = (f : State → List ℕ → Outcome State) → Delivers (never_writing f) → ⊥

abbrev pub ClaimingIsOut : Type 0
ClaimingIsOut = (WholeAsBrought (claiming starts) → ⊥) × (WholeAsBrought (claiming at_offset0) → ⊥)

abbrev pub ClaimedFilesAreOut : Type 0
ClaimedFilesAreOut = (Delivers (claiming starts) → ⊥) × (Delivers (claiming at_offset0) → ⊥)

-- a sender that gives the same for every index, whatever it gives: the first packet has 192 bytes, and the second 21
abbrev pub ConstantIsOut : Type 0
ConstantIsOut = (f : Picture → ℕ → Stamp → List ℕ → Gave) → CutsAsSaid (constant f) → ⊥

-- one that answers a count other than the receiver's, for any packet in any state,
abbrev pub InventedIsOut : Type 0
InventedIsOut = (count : State → List ℕ → ℕ) (x : State) (p : List ℕ) → Bytes p → (count x p ≡ (step x p).answer.held → ⊥) → CountsHeld (inventing count) → ⊥

-- and so one that is made up from the packet alone: with the second of the two, 2 bytes are held, or 4
abbrev pub CountByPacketIsOut : Type 0
CountByPacketIsOut = (count : List ℕ → ℕ) → CountsHeld (inventing (λ x p. count p)) → ⊥

-- What is asked is met by whatever meets the contract of `receiver::receive` (`delivers` and `whole_as_brought` of `Demand3`, and the
-- count), and by a sender that gives what the contract of `sender::packet` says.
abbrev pub StepsCountHeld : Type 0
StepsCountHeld = (f : State → List ℕ → Outcome State) → MeetsContract f → CountsHeld f

abbrev pub SenderCutsAsSaid : Type 0
SenderCutsAsSaid = CutsAsSaid (λ p size s k before. let d = fitted Refusal.PacketOutput before (sending p size s k) in record { answer = answer_of d; output = output_of before d })
