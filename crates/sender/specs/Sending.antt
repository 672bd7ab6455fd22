-- What the sender answers: its checks in number order, and the packet. Assumes nothing.
use Rattle.std.specs.Prelude.{◌≡◌, ℕ, ◌<◌, ◌≤◌, List, [], ◌∷◌, ◌++◌, length, nat_le, nat_lt}
use Rattle.std.proofs.Common.{ltb-false, leb-false}
use Rattle.fragments.specs.Fragments.{fragment_at}
use Rattle.replies.specs.Checks.{Check, judged, ◌when◌, both_passed, all_hold}
use Rattle.replies.specs.Output.{Decision, Writes, decided}
use Rattle.replies.specs.declared.Refusal.TheVariants as Refusal
use Rattle.replies.specs.Checks.{Passed}
use Rattle.replies.specs.declared.Written.{Written}
use Rattle.sender.specs.Cuts.{cuts}
use Rattle.sender.specs.Fit.{picture_checks, Fit, fits}
use Rattle.sender.specs.Packet.{packet}
use Rattle.sender.specs.Picture.{Picture}
use Rattle.sender.specs.declared.Stamp.{Stamp}

-- 44 and 45, of n packets
abbrev pub cut_checks : ℕ → ℕ → List Check
cut_checks n k =
    Refusal.Over64Packets when nat_lt 64 n
    ∷ Refusal.IndexTooLarge when nat_le n k
    ∷ []

abbrev pub checks : Picture → ℕ → ℕ → List Check
checks p size k = picture_checks p size ++ cut_checks (length (cuts size p)) k

-- What it decides of a picture, a packet size and an index, the room in the output aside.
unfoldable pub sending : Picture → ℕ → Stamp → ℕ → Decision
sending p size s k = decided (judged (checks p size k)) (packet s p k (fragment_at (cuts size p) k))

-- The outcome of `packet`.
abbrev pub Sends : Picture → ℕ → Stamp → ℕ → List ℕ → Written → List ℕ → Type 0
Sends p size s k before w after = Writes Refusal.PacketOutput (sending p size s k) before w after

-- What the checks leave: a picture that fits, of at most 64 packets, and one of them.
pub record Accepted (p : Picture) (size k : ℕ) : Type 0 where
  pub fit : Fit p size
  pub few : length (cuts size p) ≤ 64
  pub index : k < length (cuts size p)

-- ---- laws

pub accepted : (p : Picture) (size k : ℕ) → judged (checks p size k) ≡ Passed → Accepted p size k
accepted p size k e =
    let both = both_passed (picture_checks p size) (cut_checks (length (cuts size p)) k) e in
    let t = all_hold (cut_checks (length (cuts size p)) k) both.1 in
    record {
      fit = fits p size both.0;
      few = ltb-false 64 (length (cuts size p)) t.0;
      index = leb-false (length (cuts size p)) k t.1.0;
    }
