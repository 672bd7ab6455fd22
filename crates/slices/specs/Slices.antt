-- What is promised of bytes that are handed out, put at a place of others, and compared. Assumes nothing.
use Rattle.std.specs.Prelude.{ℕ, ◌+◌, ◌≤◌, ◌<◌, Bool, cond, List, ◌≡◌, leb, take, drop}
use Rattle.std.proofs.Common.{◌∙◌, le-leb}
use Rattle.std.proofs.lemmas.Bool.{lt-leb}
use Rattle.std.proofs.Math.ListN.{length}
use Rattle.laws.specs.Put.{put, Puts}
use Rattle.laws.specs.Same.{same}

-- The outcome of `part`: no more than there are.
abbrev pub GivesPart : List ℕ → ℕ → ℕ → List ℕ → Type 0
GivesPart s at n l = l ≡ take n (drop at s)

-- The outcome of `put`: the bytes stand there, and all is as it was where they do not fit.
unfoldable pub put_at : List ℕ → ℕ → List ℕ → List ℕ
put_at l at bytes = cond (leb (at + length bytes) (length l)) (put l at bytes) l

abbrev pub PutsAt : List ℕ → ℕ → List ℕ → List ℕ → Type 0
PutsAt before at bytes after = after ≡ put_at before at bytes

-- The outcome of `are_same`.
abbrev pub TellsSame : List ℕ → List ℕ → Bool → Type 0
TellsSame a b t = t ≡ same a b

-- ---- laws

module _ (l : List ℕ) (at : ℕ) (bytes : List ℕ) where
  pub put_fits : at + length bytes ≤ length l → put_at l at bytes ≡ put l at bytes
  unfolding put_at
  put_fits h = rw (le-leb (at + length bytes) (length l) h)

  pub put_not : length l < at + length bytes → put_at l at bytes ≡ l
  unfolding put_at
  put_not h = rw (lt-leb (at + length bytes) (length l) h)

-- as the outcome of a call that puts bytes
pub puts_fits : {before bytes after : List ℕ} {at : ℕ} → at + length bytes ≤ length before → PutsAt before at bytes after → Puts before at bytes after
puts_fits {before} {bytes} {after} {at} h p = record { same = p ∙ put_fits before at bytes h }
