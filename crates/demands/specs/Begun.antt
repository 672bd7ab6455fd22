-- What becomes of the pictures that a run begins: as many are begun as become whole, are given up, or are held unfinished at the end.
-- Assumes nothing.
use Rattle.std.specs.Prelude.{ℕ, Bool, not, ◌&&◌, ◌||◌, eqb, List, [], ◌∷◌, ◌+◌, true, ◌≡◌, get_or}
use Rattle.replies.specs.Reply
use Rattle.tally.specs.Counts.{Call, is_accepted, how_many, tallied}
use Rattle.tally.specs.Tally.{gives_up, counted, is_unfinished, none, closed}
use Rattle.demands.specs.History.{State, step, state, after}
use Rattle.state.specs.Receiver.{fresh}
use Rattle.state.specs.WellFormed.{flag}
use Rattle.state.specs.declared.Receiver.{Receiver}
use Rattle.demands.specs.Provenance.{StartsPicture}

-- A call of the receiver, as a tally is told of it.
abbrev pub call : State → List ℕ → Call
call x p = record { before = x.receiver; answer = (step x p).answer; after = (step x p).left.receiver }

-- The calls of a run, a packet each.
abbrev pub calls_of : State → List (List ℕ) → List Call
calls_of x [] = []
calls_of x (p ∷ packets) = call x p ∷ calls_of (step x p).left packets

-- Accepted, and no picture was held before, or there is one of another time stamp then. Like the tally this looks at no packet; it
-- is shown to be what `StartsPicture` says.
abbrev pub begins : Call → Bool
begins c = is_accepted c && (eqb c.before.picture 0 || not (eqb c.before.time c.after.time))

-- The picture is whole with this packet; a picture is given up with it.
abbrev pub makes_whole : Call → Bool
makes_whole c = eqb c.answer.reply Reply.whole

abbrev pub gives_one_up : Call → Bool
gives_one_up c = gives_up c.before c.after

-- ---- what is proved

module _ (r : Receiver) (area p : List ℕ) where
  -- the test is passed by the packets that start a picture, and by no others
  abbrev pub BeginningsStart : Type 0
  BeginningsStart = begins (call (state r area) p) ≡ true → StartsPicture step (state r area) p

  abbrev pub StartsBegin : Type 0
  StartsBegin = StartsPicture step (state r area) p → begins (call (state r area) p) ≡ true

module _ (source room : ℕ) (area : List ℕ) (packets : List (List ℕ)) where
  abbrev pub calls : List Call
  calls = calls_of (state (fresh source room) area) packets

  abbrev pub last : Receiver
  last = (after step (state (fresh source room) area) packets).receiver

  -- From open on, after any packets: as many pictures were begun as became whole, were given up, or are held unfinished.
  abbrev pub BegunWholeOrGivenUp : Type 0
  BegunWholeOrGivenUp = how_many begins calls ≡ how_many makes_whole calls + how_many gives_one_up calls + flag (is_unfinished last)

  -- So the two counts of a tally that is closed, of the replies whole and of the pictures given up, come to all that were begun.
  abbrev pub TallyOfAllBegun : Type 0
  TallyOfAllBegun = counted (get_or (closed (tallied none calls) last).replies Reply.whole 0 + (closed (tallied none calls) last).given_up) ≡ counted (how_many begins calls)
