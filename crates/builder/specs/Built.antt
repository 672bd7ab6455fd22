-- What the builder makes of a whole picture. Assumes nothing.
use Rattle.std.specs.Prelude.{ℕ, ◌≤◌, true, List, [], ◌∷◌, ◌++◌, ◌≡◌, length, take, drop}
use Rattle.std.proofs.Common.{append_assoc, ◌∙◌}
use Rattle.std.proofs.Math.Path.{refl}
use borrow.Author.Tests.{le-ltb, eq-eqb}
use Rattle.head.specs.Head.{head}
use Rattle.head.specs.declared.Frame.{Frame}
use Rattle.laws.specs.Truth.{same}
use Rattle.laws.specs.Within.{within}
use Rattle.replies.specs.Checks.{judged, neither, neither_9_nor_8, start, passes, none_left}
use Rattle.replies.specs.Output.{decided, succeeded, reply_by, success_checked}
use Rattle.replies.specs.Reply
use Rattle.replies.specs.Checks.{Passed}
use Rattle.replies.specs.declared.Written.{Written}
use Rattle.state.specs.WellFormed.{well_formed, is_well_formed}
use Rattle.state.specs.declared.Receiver.{Receiver}
use Rattle.builder.specs.Building.{Builds, Buildable, building, buildable, checks, whole_check, frame_of, scan_of, file_of}
use Rattle.builder.specs.File.{body, closing, file}

-- The file of these parts is written where there is room for it: the head, then the scan, then the end, and the rest is as it was.
abbrev pub WritesFile : Frame → List ℕ → List ℕ → List ℕ → Written → List ℕ → Type 0
WritesFile f tables scan before w after =
    let n = length (file f tables scan) in
    n ≤ length before → (w ≡ succeeded n) × (after ≡ head f tables ++ scan ++ closing scan ++ drop n before)

module _ (r : Receiver) (area : List ℕ) {before after : List ℕ} {w : Written} (builds : Builds r area before w after) where
  module _ (b : Buildable r area) where
    passed : judged (checks r area) ≡ Passed
    passed = none_left (passes (passes (passes start (rw (is_well_formed r b.well))) (same (length area) r.room b.room)) (rw b.whole))

    -- The file of a whole picture is of its header fields, its tables and its scan.
    pub whole_built : WritesFile (frame_of r) r.tables (scan_of r area) before w after
    unfolding building file body
    whole_built fits =
        let t = le-ltb (length before) (length (file_of r area)) fits in
        (rw (passed, t) at builds.answer, rw (passed, t) at builds.output ∙ rw (append_assoc (head (frame_of r) r.tables) (scan_of r area) (closing (scan_of r area))))

  -- And success is answered for a whole picture alone, whose file then stands in front.
  module _ (success : w.reply ≡ Reply.success) where
    pub success_built : Buildable r area × (w.length ≡ length (file_of r area)) × (take w.length after ≡ file_of r area)
    unfolding building
    success_built =
        let t = success_checked (checks r area) (file_of r area) builds refl refl success in
        (buildable r area t.0, t.1, t.2)

  -- 9 and 8 are answered to no well-formed receiver with an area as long as its room.
  module _ (well : well_formed r ≡ true) (room : length area ≡ r.room) where
    only_whole : building r area ≡ decided (judged (whole_check r ∷ [])) (file_of r area)
    unfolding building judged
    only_whole = rw (well, eq-eqb (length area) r.room room)

    pub replied : (w.reply ≡ Reply.not_well_formed → ⊥) × (w.reply ≡ Reply.area_not_room → ⊥)
    unfolding within
    replied = neither_9_nor_8 (reply_by (whole_check r ∷ []) (file_of r area) (rw only_whole at builds) neither refl refl refl)
