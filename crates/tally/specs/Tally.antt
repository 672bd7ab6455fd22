-- The counts that a run is judged by. Assumes nothing.
use Rattle.std.specs.Prelude.{◌≡◌, ℕ, zero, suc, ◌+◌, ◌%◌, ◌<◌, ◌≤◌, Bool, cond, not, ◌&&◌, List, [], ◌∷◌, length, replicate, ◌==◌, slice_index, slice_set, refl}
use Rattle.std.proofs.Common.{ap, not-suc-le-zero, le_of_suc-le-suc, arith}
use Rattle.replies.specs.Reply
use Rattle.state.specs.declared.Answer.{Answer}
use Rattle.state.specs.declared.Receiver.{Receiver}
use Rattle.tally.specs.declared.Tally.{Tally}

-- A count of 64 bits: 2^64 is 0 again.
abbrev pub counted : ℕ → ℕ
counted n = n % 18446744073709551616

abbrev pub one_more_if : Bool → ℕ → ℕ
one_more_if so n = cond so (counted (n + 1)) n

-- one more at a place of a list, and nothing where it has no such place
abbrev pub raised : ℕ → List ℕ → List ℕ
raised place [] = []
raised zero (n ∷ counts) = counted (n + 1) ∷ counts
raised (suc place) (n ∷ counts) = n ∷ raised place counts

-- A picture is held, and is not whole.
abbrev pub is_unfinished : Receiver → Bool
is_unfinished r = r.picture == 1 && not (r.whole == 1)

-- A picture was held unfinished, and then there is one of another time stamp.
abbrev pub gives_up : Receiver → Receiver → Bool
gives_up before after = is_unfinished before && not (before.time == after.time)

abbrev pub none : Tally
none = record { read = 0; replies = replicate 32 0; given_up = 0 }

unfoldable pub added : Tally → Receiver → Answer → Receiver → Tally
added t before a after = record {
  read = counted (t.read + 1);
  replies = raised a.reply t.replies;
  given_up = one_more_if (gives_up before after) t.given_up;
}

unfoldable pub closed : Tally → Receiver → Tally
closed t last = record {
  read = t.read;
  replies = t.replies;
  given_up = one_more_if (is_unfinished last) t.given_up;
}

-- The outcomes of `none`, `add`, `close` and `accepted`.
abbrev pub CountsNothing : Tally → Type 0
CountsNothing t = t ≡ none

abbrev pub Adds : Tally → Receiver → Answer → Receiver → Tally → Type 0
Adds t before a after t' = t' ≡ added t before a after

abbrev pub Closes : Tally → Receiver → Tally → Type 0
Closes t last t' = t' ≡ closed t last

abbrev pub TellsAccepted : Tally → ℕ → Type 0
TellsAccepted t n = n ≡ counted (slice_index t.replies Reply.held + slice_index t.replies Reply.whole)

-- ---- laws

-- A place of a list is raised by one store; a list without that place stays as it is.
pub raised_within : (l : List ℕ) (place : ℕ) → place < length l → slice_set l place (counted (slice_index l place + 1)) ≡ raised place l
raised_within [] place h = absurd (not-suc-le-zero h)
raised_within (n ∷ l) zero h = refl
raised_within (n ∷ l) (suc place) h = ap (λ (m : List ℕ). n ∷ m) (raised_within l place (le_of_suc-le-suc h))

pub raised_outside : (l : List ℕ) (place : ℕ) → length l ≤ place → raised place l ≡ l
raised_outside [] place h = refl
raised_outside (n ∷ l) zero h = absurd (omega arith)
raised_outside (n ∷ l) (suc place) h = ap (λ (m : List ℕ). n ∷ m) (raised_outside l place (le_of_suc-le-suc h))
