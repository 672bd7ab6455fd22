-- The verdict on a packet that has been read: the checks from 22 on. Assumes nothing.
use Rattle.std.specs.Prelude.{◌≡◌, ℕ, ◌<◌, ◌≤◌, Bool, false, not, ◌&&◌, ◌||◌, List, [], ◌∷◌, ◌++◌, length, ◌==◌, nat_eq, nat_le, nat_lt, refl}
use Rattle.std.proofs.Common.{ltb-false, leb-false, eqb-true, eq-eqb}
use Rattle.std.proofs.lemmas.Bool.{not-false}
use Rattle.fragments.specs.Clash.{clashes, Clear, clear}
use Rattle.fragments.specs.Fragments.{stop, bytes_of}
use Rattle.fragments.specs.Shared.{alike}
use Rattle.fragments.specs.declared.Fragment.{Fragment}
use Rattle.laws.specs.Any.{any}
use Rattle.laws.specs.Same.{same}
use Rattle.laws.specs.Truth.{and_true, or_none}
use Rattle.replies.specs.Checks.{Check, Judged, Passed, judged, ◌when◌, all_hold}
use Rattle.replies.specs.declared.Refusal.TheVariants as Refusal
use Rattle.state.specs.Receiver.{held_fragments, header_of}
use Rattle.state.specs.declared.Receiver.{Receiver}
use Rattle.wire.specs.Reading.{scan_in, tables_in}
use Rattle.wire.specs.declared.Header.{Header}
use Rattle.wire.specs.declared.Packet.{Packet}
use Rattle.receiver.specs.FirstPacket.{brings, is_bare}
use Rattle.receiver.specs.Picture.{picture_for}
use Rattle.receiver.specs.Time.{is_behind}

-- The part of the scan that a packet carries.
abbrev pub fragment_of : Packet → Fragment
fragment_of s = record { offset = s.offset; length = s.scan.length; marker = s.marker }

-- it is past: older than the picture, exactly 2^31 away from it, or the picture is whole
abbrev pub is_past : Receiver → Packet → Bool
is_past r s = is_behind s.time r.time || r.whole == 1

-- its type, Q, width, height or interval is not the picture's
unfoldable pub is_unlike : Header → Header → Bool
is_unlike h g = not (h.kind == g.kind && h.q == g.q && h.width == g.width && h.height == g.height && h.interval == g.interval)

-- its data would end beyond the room
abbrev pub is_beyond : Receiver → Packet → Bool
is_beyond r s = nat_lt r.room (stop (fragment_of s))

-- any tables that it brings equal these
abbrev pub agrees : List ℕ → Packet → List ℕ → Bool
agrees p s tables = not (brings s) || same (tables_in p s) tables

-- its bytes are those that the area has there, and its tables, if any, are these
abbrev pub same_contents : List ℕ → List ℕ → Packet → List ℕ → Bool
same_contents area p s tables = same (bytes_of area (fragment_of s)) (scan_in p s) && agrees p s tables

-- it is held already: with this offset, length, marker and bytes, and any tables that it brings are the picture's
abbrev pub is_again : Receiver → List ℕ → List ℕ → Packet → Bool
is_again r area p s = any (alike (fragment_of s)) (held_fragments r) && same_contents area p s r.tables

-- 64 fragments are held
abbrev pub is_full : Receiver → Bool
is_full r = nat_le 64 (length (held_fragments r))

-- The checks of a packet p that says s, against a picture and the area: 22, 23, 24,
abbrev pub picture_checks : Receiver → Packet → List Check
picture_checks r s =
    Refusal.Past when is_past r s
    ∷ Refusal.Unlike when is_unlike (header_of r) s.header
    ∷ Refusal.Beyond when is_beyond r s
    ∷ []

-- 2 or 25, 26, 27
abbrev pub place_checks : Receiver → List ℕ → List ℕ → Packet → List Check
place_checks r area p s =
    Refusal.Again when is_again r area p s
    ∷ Refusal.Clash when clashes (fragment_of s) (held_fragments r)
    ∷ Refusal.Full when is_full r
    ∷ Refusal.Bare when is_bare r.kept s
    ∷ []

abbrev pub checks : Receiver → List ℕ → List ℕ → Packet → List Check
checks r area p s = picture_checks r s ++ place_checks r area p s

-- A packet that starts a picture is judged on that picture as begun, so that 23, 2, 25 and 26 cannot arise.
abbrev pub verdict : Receiver → List ℕ → List ℕ → Packet → Judged
verdict r area p s = judged (checks (picture_for r s) area p s)

-- ---- laws

-- what is known of a packet that is accepted for a picture
pub record Accepted (r : Receiver) (s : Packet) : Type 0 where
  pub in_time : is_behind s.time r.time ≡ false
  pub not_whole : nat_eq r.whole 1 ≡ false
  pub like : header_of r ≡ s.header
  pub fits : stop (fragment_of s) ≤ r.room
  pub clear : Clear (fragment_of s) (held_fragments r)
  pub few : length (held_fragments r) < 64
  pub supplied : is_bare r.kept s ≡ false

pub like_itself : (h : Header) → is_unlike h h ≡ false
unfolding is_unlike
like_itself h = rw (eq-eqb h.kind h.kind refl, eq-eqb h.q h.q refl, eq-eqb h.width h.width refl, eq-eqb h.height h.height refl, eq-eqb h.interval h.interval refl)

same_header : (h g : Header) → is_unlike h g ≡ false → h ≡ g
unfolding is_unlike
same_header h g e =
    let t = not-false (h.kind == g.kind && h.q == g.q && h.width == g.width && h.height == g.height && h.interval == g.interval) e in
    let a = and_true (h.kind == g.kind && h.q == g.q && h.width == g.width && h.height == g.height) (h.interval == g.interval) t in
    let b = and_true (h.kind == g.kind && h.q == g.q && h.width == g.width) (h.height == g.height) a.0 in
    let c = and_true (h.kind == g.kind && h.q == g.q) (h.width == g.width) b.0 in
    let d = and_true (h.kind == g.kind) (h.q == g.q) c.0 in
    same_fields (eqb-true h.kind g.kind d.0) (eqb-true h.q g.q d.1) (eqb-true h.width g.width c.1) (eqb-true h.height g.height b.1) (eqb-true h.interval g.interval a.1)
  where
    header : ℕ → ℕ → ℕ → ℕ → ℕ → Header
    header kind q width height interval = record { kind = kind; q = q; width = width; height = height; interval = interval }

    same_fields : h.kind ≡ g.kind → h.q ≡ g.q → h.width ≡ g.width → h.height ≡ g.height → h.interval ≡ g.interval → header h.kind h.q h.width h.height h.interval ≡ header g.kind g.q g.width g.height g.interval
    same_fields a b c d e = cc

pub accepted : (r : Receiver) (area p : List ℕ) (s : Packet) → judged (checks r area p s) ≡ Passed → Accepted r s
accepted r area p s e =
    let t = all_hold (checks r area p s) e in
    let past = or_none (is_behind s.time r.time) (r.whole == 1) t.0 in
    let place = t.1.1.1.1 in
    record {
      in_time = past.0;
      not_whole = past.1;
      like = same_header (header_of r) s.header t.1.0;
      fits = ltb-false r.room (stop (fragment_of s)) t.1.1.0;
      clear = clear (fragment_of s) (held_fragments r) place.0;
      few = leb-false 64 (length (held_fragments r)) place.1.0;
      supplied = place.1.1.0;
    }
