-- A transcript of four packets on the definitions, computed: the second of a picture, again, the first, again. Assumes nothing.
use Rattle.std.specs.Prelude.{ℕ, ◌+◌, List, [], ◌∷◌, ◌≡◌, length, take, replicate}
use Rattle.builder.specs.Building.{checks, file_of}
use Rattle.receiver.specs.Step.{held}
use Rattle.replies.specs.Checks.{judged}
use Rattle.replies.specs.Checks.{Passed}
use Rattle.state.specs.Receiver.{fresh}
use Rattle.state.specs.declared.Answer.{Answer}
use Rattle.demands.specs.History.{State, state, step, after, answers}

-- the picture's second packet, and its first
abbrev pub second : List ℕ
second = 0x80 ∷ 0x9A ∷ 0x00 ∷ 0x01 ∷ 0x00 ∷ 0x00 ∷ 0x03 ∷ 0xE8 ∷ 0x00 ∷ 0x00 ∷ 0x00 ∷ 0x01 ∷ 0x00 ∷ 0x00 ∷ 0x00 ∷ 0x02 ∷ 0x01 ∷ 0x32 ∷ 0x02 ∷ 0x02 ∷ 0xCC ∷ 0xDD ∷ []

abbrev pub first : List ℕ
first = 0x80 ∷ 0x1A ∷ 0x00 ∷ 0x00 ∷ 0x00 ∷ 0x00 ∷ 0x03 ∷ 0xE8 ∷ 0x00 ∷ 0x00 ∷ 0x00 ∷ 0x01 ∷ 0x00 ∷ 0x00 ∷ 0x00 ∷ 0x00 ∷ 0x01 ∷ 0x32 ∷ 0x02 ∷ 0x02 ∷ 0xAA ∷ 0xBB ∷ []

abbrev pub packets : List (List ℕ)
packets = second ∷ second ∷ first ∷ first ∷ []

-- A room of 6 is enough for its scan of 4 bytes.
abbrev pub start : State
start = state (fresh 1 6) (replicate 6 7)

abbrev pub answer : ℕ → ℕ → Answer
answer reply held = record { reply = reply; held = held }

-- the reply to each, and how many bytes of the scan are held then
abbrev pub lines : List Answer
lines = answer 0 2 ∷ answer 2 2 ∷ answer 1 4 ∷ answer 22 4 ∷ []

-- What its first three packets leave: a whole picture, of whose file 605 bytes are the head, 4 the scan and 2 the closing marker.
abbrev pub left : State
left = after step start (take 3 packets)

pub record Transcript : Type 0 where
  pub answered : answers step start packets ≡ lines
  pub area : left.area ≡ 0xAA ∷ 0xBB ∷ 0xCC ∷ 0xDD ∷ 7 ∷ 7 ∷ []
  pub whole : judged (checks left.receiver left.area) ≡ Passed
  pub file : length (file_of left.receiver left.area) ≡ 605 + 4 + 2
