-- The file of a picture: its head, its scan, and the marker that closes it. Assumes nothing.
use Rattle.std.specs.Prelude.{ℕ, ◌+◌, ◌-◌, ◌≤◌, ◌<◌, Bool, true, false, cond, List, [], ◌++◌, ◌≡◌, length, drop}
use Rattle.std.proofs.Common.{append-nil, arith, length-append, length-drop}
use Rattle.head.specs.Head.{head}
use Rattle.head.specs.Segment.{eoi, marker}
use Rattle.head.specs.declared.Frame.{Frame}
use Rattle.laws.specs.Same.{same, same_lengths}
use Rattle.laws.specs.Truth.{split}

-- Whether a scan's last two bytes are FF D9 already.
unfoldable pub is_closed : List ℕ → Bool
is_closed scan = same (drop (length scan - 2) scan) (marker eoi)

abbrev pub closing : List ℕ → List ℕ
closing scan = cond (is_closed scan) [] (marker eoi)

-- "The scan follows, then FF D9 unless the scan's last two bytes are already FF D9."
unfoldable pub body : List ℕ → List ℕ
body scan = scan ++ closing scan

unfoldable pub file : Frame → List ℕ → List ℕ → List ℕ
file f tables scan = head f tables ++ body scan

-- ---- laws

pub too_short_to_close : (scan : List ℕ) → length scan < 2 → is_closed scan ≡ false
unfolding is_closed
too_short_to_close scan h =
    same_lengths (drop (length scan - 2) scan) (marker eoi) (λ e. let n = length-drop (length scan - 2) scan in omega arith)

module _ (scan : List ℕ) where
  pub body_closed : is_closed scan ≡ true → body scan ≡ scan
  unfolding body
  body_closed e = rw e (append-nil scan)

  pub body_open : is_closed scan ≡ false → body scan ≡ scan ++ marker eoi
  unfolding body
  body_open e = rw e

  pub body_small : length (body scan) ≤ length scan + 2
  body_small =
      split (is_closed scan)
      (λ e. rw (body_closed e) (omega arith))
      (λ e. rw (body_open e) (simp length-append (omega arith)))
