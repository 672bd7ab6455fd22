-- What the builder answers: its checks, and the file. Assumes nothing.
use Rattle.std.specs.Prelude.{ℕ, ◌≤◌, true, not, List, [], ◌∷◌, ◌≡◌, refl, eqb, length, take}
use Rattle.std.proofs.Common.{arith, length-take}
use Rattle.std.proofs.lemmas.Bool.{not-false}
use Rattle.fragments.specs.Held as Held
use Rattle.head.specs.declared.Frame.{Frame}
use Rattle.laws.specs.Truth.{never_both, are_same}
use Rattle.replies.specs.Checks.{Check, judged, ◌when◌, all_hold}
use Rattle.replies.specs.Output.{Decision, Writes, decided}
use Rattle.replies.specs.declared.Refusal.TheVariants as Refusal
use Rattle.replies.specs.Checks.{Passed}
use Rattle.replies.specs.declared.Written.{Written}
use Rattle.state.specs.Receiver.{held_fragments, header_of}
use Rattle.state.specs.WellFormed.{well_formed, WellFormed, known_well_formed, held_within_room, some_held}
use Rattle.state.specs.declared.Receiver.{Receiver}
use Rattle.wire.specs.Lawful.{Lawful, lawful}
use Rattle.wire.specs.declared.Header.{Header}
use Rattle.builder.specs.File.{file}

-- 9, 8 and 30, in their order; 31 is against the file's own length.
abbrev pub formed_check : Receiver → Check
formed_check r = Refusal.NotWellFormed when not (well_formed r)

abbrev pub room_check : Receiver → List ℕ → Check
room_check r area = Refusal.AreaNotRoom when not (eqb (length area) r.room)

abbrev pub whole_check : Receiver → Check
whole_check r = Refusal.NotWhole when not (Held.whole (held_fragments r))

abbrev pub checks : Receiver → List ℕ → List Check
checks r area = formed_check r ∷ room_check r area ∷ whole_check r ∷ []

-- What a head is made of, of a picture's header fields: all but its Q, which is in the tables.
abbrev pub frame_for : Header → Frame
frame_for h = record { kind = h.kind; width = h.width; height = h.height; interval = h.interval }

-- What a whole picture's file is made of: its header fields, its tables, and the bytes of the area up to its end.
abbrev pub frame_of : Receiver → Frame
frame_of r = frame_for (header_of r)

abbrev pub scan_of : Receiver → List ℕ → List ℕ
scan_of r area = take r.end area

abbrev pub file_of : Receiver → List ℕ → List ℕ
file_of r area = file (frame_of r) r.tables (scan_of r area)

-- What it decides of a receiver and an area, the room in the output aside.
unfoldable pub building : Receiver → List ℕ → Decision
building r area = decided (judged (checks r area)) (file_of r area)

-- The outcome of `build`.
abbrev pub Builds : Receiver → List ℕ → List ℕ → Written → List ℕ → Type 0
Builds r area before w after = Writes Refusal.FileOutput (building r area) before w after

-- What the checks leave: a well-formed receiver with its area, and a whole picture.
pub record Buildable (r : Receiver) (area : List ℕ) : Type 0 where
  pub well : WellFormed r
  pub room : length area ≡ r.room
  pub whole : Held.whole (held_fragments r) ≡ true

-- ---- laws

pub buildable : (r : Receiver) (area : List ℕ) → judged (checks r area) ≡ Passed → Buildable r area
buildable r area e =
    let t = all_hold (checks r area) e in
    record {
      well = known_well_formed r (not-false (well_formed r) t.0);
      room = are_same (length area) r.room t.1.0;
      whole = not-false (Held.whole (held_fragments r)) t.1.1.0;
    }

-- A whole picture has lawful header fields.
pub whole_lawful : {r : Receiver} → WellFormed r → Held.whole (held_fragments r) ≡ true → Lawful (header_of r)
whole_lawful {r} well whole =
    lawful (header_of r)
    (some_held r.time r.fragment_count (header_of r) r.picture well.picture
    (λ z. never_both whole (rw z (Held.not_known 0 0 refl))))

-- The area has every byte of its scan.
module _ {r : Receiver} {area : List ℕ} (b : Buildable r area) where
  pub length_scan : length (scan_of r area) ≡ r.end
  length_scan =
      simp length-take
      (omega (arith, held_within_room b.well, (Held.is_whole (held_fragments r) b.whole).sum, b.well.end, b.room))

  pub scan_small : length (scan_of r area) ≤ 65536
  scan_small = simp length-take (omega (arith, b.room, b.well.room))
