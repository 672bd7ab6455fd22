-- A picture's packets in any order, repeated or not, among others: what follows of a step whose state depends only on which of them
-- have come. Assumes nothing.
use Rattle.std.specs.Prelude.{ℕ, Bool, true, cond, List, [], ◌∷◌, ◌≡◌, get_or, set}
use Rattle.replies.specs.Reply
use Rattle.demands.specs.Delivery.Arrival.{ours, other}
use Rattle.demands.specs.Delivery.{Arrival}
use Rattle.demands.specs.History.{Outcome}
use Rattle.demands.specs.Sets.{every}

-- The packets that have come when those of s had, and then this arrival, or these.
abbrev pub with : Arrival → List Bool → List Bool
with (ours k) s = set s k true
with (other q) s = s

abbrev pub come : List Bool → List Arrival → List Bool
come s [] = s
come s (a ∷ l) = come (with a s) l

-- The reply to packet k when those of s have come.
abbrev pub reply_to : List Bool → ℕ → ℕ
reply_to s k = cond (every s) Reply.past (cond (get_or s k true) Reply.again (cond (every (set s k true)) Reply.whole Reply.held))

-- What packet k gives where those of s have come: that reply, and the state after it too, of which `Ok` holds.
pub record Came {S : Type 0} (arrived : List Bool → S) (Ok : List Bool → Type 0) (s : List Bool) (k : ℕ) (o : Outcome S) : Type 0 where
  pub reply : o.answer.reply ≡ reply_to s k
  pub left : o.left ≡ arrived (set s k true)
  pub ok : Ok (set s k true)
