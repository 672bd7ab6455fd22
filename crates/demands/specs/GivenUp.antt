-- When a call gives a picture up: the tally looks only at the receivers before and after it, and at neither packet nor reply. And that
-- each reply has its place among the counts. Assumes nothing.
use Rattle.std.specs.Prelude.{ℕ, ◌<◌, true, List, ◌≡◌}
use Rattle.receiver.specs.Step.{received}
use Rattle.state.specs.declared.Receiver.{Receiver}
use Rattle.tally.specs.Tally.{is_unfinished, gives_up}
use Rattle.demands.specs.History.{state, step}
use Rattle.demands.specs.Provenance.{StartsPicture}

module _ (r : Receiver) (area p : List ℕ) where
  -- it gives one up where an unfinished one is held, and the packet is accepted and starts another; and nowhere else
  abbrev pub GivenUpForAnother : Type 0
  GivenUpForAnother = gives_up r (received r area p).receiver ≡ true → (is_unfinished r ≡ true) × StartsPicture step (state r area) p

  abbrev pub AnotherGivesUp : Type 0
  AnotherGivesUp = is_unfinished r ≡ true → StartsPicture step (state r area) p → gives_up r (received r area p).receiver ≡ true

  -- the tally has 32 places for replies
  abbrev pub RepliesHavePlaces : Type 0
  RepliesHavePlaces = (received r area p).answer.reply < 32
