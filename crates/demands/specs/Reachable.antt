-- What holds after every history. Assumes nothing.
use Rattle.std.specs.Prelude.{ℕ, true, List, ◌≡◌, length}
use Rattle.laws.specs.Each.{Each}
use Rattle.replies.specs.Reply
use Rattle.state.specs.WellFormed.{well_formed}
use Rattle.state.specs.declared.Answer.{Answer}
use Rattle.demands.specs.History.{State, state, History, step, after, answers}
use Rattle.builder.specs.Building.{Builds}
use Rattle.replies.specs.declared.Written.{Written}
use Rattle.state.specs.Receiver.{fresh}

-- What holds of the answers up to a state, and of the state, which is that of a receiver opened with this source and room.
pub record Reached (source room : ℕ) (answered : List Answer) (x : State) : Type 0 where
  pub source_stays : x.receiver.source ≡ source
  pub room_stays : x.receiver.room ≡ room
  pub formed : well_formed x.receiver ≡ true
  pub as_long_as_the_room : length x.area ≡ room
  pub never_9 : Each (λ (a : Answer). a.reply ≡ Reply.not_well_formed → ⊥) answered
  pub never_8 : Each (λ (a : Answer). a.reply ≡ Reply.area_not_room → ⊥) answered

-- ---- what is proved

-- After any history the receiver is well formed and the area as long as the room, and neither 9 nor 8 was ever answered;
abbrev pub HistoriesReach : Type 0
HistoriesReach = (source room : ℕ) (packets : List (List ℕ)) (answered : List Answer) (x : State) → History source room packets answered x → Reached source room answered x

-- and the builder answers neither of them then.
abbrev pub BuilderRefusesNeither : Type 0
BuilderRefusesNeither = (source room : ℕ) (packets : List (List ℕ)) (answered : List Answer) (x : State) (before : List ℕ) (w : Written) (after : List ℕ) → History source room packets answered x → Builds x.receiver x.area before w after → (w.reply ≡ Reply.not_well_formed → ⊥) × (w.reply ≡ Reply.area_not_room → ⊥)

module _ {source room : ℕ} {packets : List (List ℕ)} {answered : List Answer} {x : State} (h : History source room packets answered x) where
  abbrev pub HistoriesAreSteps : Type 0
  HistoriesAreSteps = (answered ≡ answers step (state (fresh source room) h.area) packets) × (x ≡ after step (state (fresh source room) h.area) packets)
