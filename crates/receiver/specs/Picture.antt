-- The picture that a packet is for: the one held, or one that it begins. Assumes nothing.
use Rattle.std.specs.Prelude.{◌≡◌, ◌≤◌, Bool, true, false, cond, ◌||◌, ◌==◌}
use Rattle.std.proofs.Math.Path.{refl}
use Rattle.std.proofs.Common.{◌∙◌, arith}
use Rattle.fragments.specs.Array.{is_nothing, no_fragments}
use Rattle.fragments.specs.Held.{end_of, reached}
use Rattle.fragments.specs.Order.{InPlace}
use Rattle.fragments.specs.Shared.{alike}
use Rattle.kept.specs.Kept.{blank}
use Rattle.laws.specs.All.{all}
use Rattle.laws.specs.Truth.{split}
use Rattle.state.specs.Receiver.{held_fragments, unused}
use Rattle.state.specs.WellFormed.{tables_given, well_formed, known_well_formed, is_well_formed, one_held}
use Rattle.state.specs.declared.Receiver.{Receiver}
use Rattle.wire.specs.Lawful.{Lawful, lawful_told}
use Rattle.wire.specs.declared.Packet.{Packet}
use Rattle.receiver.specs.Time.{is_newer}

-- A packet starts a picture where none is held, whatever its time stamp, or where it is newer than the one held.
abbrev pub starts : Receiver → Packet → Bool
starts r s = r.picture == 0 || is_newer s.time r.time

-- A picture as a packet begins it: of its time stamp and header fields, with no fragments and no tables yet. Source, room and store
-- are not the picture's.
abbrev pub begun : Receiver → Packet → Receiver
begun r s = record {
  source = r.source;
  room = r.room;
  picture = 1;
  time = s.time;
  kind = s.header.kind;
  q = s.header.q;
  width = s.header.width;
  height = s.header.height;
  interval = s.header.interval;
  end = 0;
  whole = 0;
  fragment_count = 0;
  fragments = no_fragments;
  tables = blank;
  kept = r.kept;
}

unfoldable pub picture_for : Receiver → Packet → Receiver
picture_for r s = cond (starts r s) (begun r s) r

-- ---- laws

module _ (r : Receiver) (s : Packet) where
  -- what holds of one begun and of the one held
  pub by_picture : (P : Receiver → Type 0) → P (begun r s) → P r → P (picture_for r s)
  unfolding picture_for
  by_picture P new old = go (starts r s)
    where
      go : (t : Bool) → P (cond t (begun r s) r)
      go true = new
      go false = old

  pub picture_begun : starts r s ≡ true → picture_for r s ≡ begun r s
  unfolding picture_for
  picture_begun e = rw e

  pub picture_held : starts r s ≡ false → picture_for r s ≡ r
  unfolding picture_for
  picture_held e = rw e

  -- its arrays are the receiver's, or as they begin
  pub picture_array : (picture_for r s).fragments ≡ cond (starts r s) no_fragments r.fragments
  unfolding picture_for
  picture_array = split (starts r s) (λ e. rw e) (λ e. rw e)

  pub picture_tables : (picture_for r s).tables ≡ cond (starts r s) blank r.tables
  unfolding picture_for
  picture_tables = split (starts r s) (λ e. rw e) (λ e. rw e)

  -- source, room and store are the receiver's
  pub picture_source : (picture_for r s).source ≡ r.source
  picture_source = by_picture (λ (v : Receiver). v.source ≡ r.source) refl refl

  pub picture_room : (picture_for r s).room ≡ r.room
  picture_room = by_picture (λ (v : Receiver). v.room ≡ r.room) refl refl

  pub picture_kept : (picture_for r s).kept ≡ r.kept
  picture_kept = by_picture (λ (v : Receiver). v.kept ≡ r.kept) refl refl

  -- what a well-formed receiver has, of the one held or of one begun; all of it where the packet's header fields are lawful
  module _ (w : well_formed r ≡ true) where
    pub picture_count : (picture_for r s).fragment_count ≤ 64
    picture_count = by_picture (λ (v : Receiver). v.fragment_count ≤ 64) (omega arith) (known_well_formed r w).count

    pub picture_in_place : InPlace r.room (held_fragments (picture_for r s))
    picture_in_place = by_picture (λ (v : Receiver). InPlace r.room (held_fragments v)) (record { order = tt; inside = tt; marked = tt }) (known_well_formed r w).placed

    pub picture_unused : all is_nothing (unused (picture_for r s)) ≡ true
    unfolding no_fragments alike
    picture_unused = by_picture (λ (v : Receiver). all is_nothing (unused v) ≡ true) refl (known_well_formed r w).unused

    pub picture_end : (picture_for r s).end ≡ end_of (held_fragments (picture_for r s))
    picture_end = by_picture (λ (v : Receiver). v.end ≡ end_of (held_fragments v)) refl (known_well_formed r w).end

    begun_well_formed : Lawful s.header → well_formed (begun r s) ≡ true
    unfolding no_fragments alike tables_given blank reached
    begun_well_formed l = is_well_formed (begun r s) (record {
      room = (known_well_formed r w).room;
      count = omega arith;
      placed = record { order = tt; inside = tt; marked = tt };
      unused = refl;
      picture = one_held s.time 0 s.header ∙ lawful_told s.header l;
      end = refl;
      tables = refl;
      kept = (known_well_formed r w).kept;
      whole = refl;
    })

    pub picture_well_formed : Lawful s.header → well_formed (picture_for r s) ≡ true
    picture_well_formed l = by_picture (λ (v : Receiver). well_formed v ≡ true) (begun_well_formed l) w
