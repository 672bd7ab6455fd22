-- Records of a stream, as RFC 4571 section 2 frames them: a length of two bytes, and a packet of so many. Assumes nothing.
use Rattle.std.specs.Prelude.{ℕ, ◌+◌, ◌-◌, ◌≤◌, ◌<◌, Bool, List, ◌≡◌, eqb, ltb, length, take, drop}
use Rattle.std.proofs.Math.Bool.{true, false, cond}
use Rattle.std.proofs.Math.Nat.{add-sub_cancel_left}
use native.Mathlib.Omega.{arith}
use borrow.Author.Tests.{lt-ltb, le-ltb, eq-eqb, ne_eqb}
use Rattle.wire.specs.Field.{field}

-- the number in a record's length field
abbrev pub packet_length : List ℕ → ℕ
packet_length bytes = field bytes 0 2

-- How many bytes a record has that begins so: the length field, and the packet once that field is there.
unfoldable pub record_length : List ℕ → ℕ
record_length bytes = cond (ltb (length bytes) 2) 2 (2 + packet_length bytes)

-- What a stream that has these bytes left begins with: nothing at its end, a record that it ends in, or a complete one with its packet.
pub data Front : Type 0 where
  nothing : Front
  cut : Front
  packet : List ℕ → Front

unfoldable pub front : List ℕ → Front
front bytes =
    cond (eqb (length bytes) 0) nothing
    (cond (ltb (length bytes) (record_length bytes)) cut
    (packet (take (packet_length bytes) (drop 2 bytes))))

-- The outcome of `length`.
abbrev pub TellsRecordLength : List ℕ → ℕ → Type 0
TellsRecordLength bytes n = n ≡ record_length bytes

-- ---- laws

module _ (bytes : List ℕ) where
  pub length_there : 2 ≤ length bytes → record_length bytes ≡ 2 + packet_length bytes
  unfolding record_length
  length_there h = rw (le-ltb (length bytes) 2 h)

  -- a record has its length field at least
  pub length_least : 2 ≤ record_length bytes
  unfolding record_length
  length_least = least (ltb (length bytes) 2)
    where
      least : (t : Bool) → 2 ≤ cond t 2 (2 + packet_length bytes)
      least true = omega arith
      least false = omega arith

  -- what holds of no record, of a cut one and of a complete one holds of what a stream begins with
  pub by_front : (P : Front → Type 0) → P nothing → P cut → P (packet (take (packet_length bytes) (drop 2 bytes))) → P (front bytes)
  unfolding front
  by_front P none short whole = go (eqb (length bytes) 0) (ltb (length bytes) (record_length bytes))
    where
      go : (ended lacking : Bool) → P (cond ended nothing (cond lacking cut (packet (take (packet_length bytes) (drop 2 bytes)))))
      go true lacking = none
      go false true = short
      go false false = whole

  pub front_nothing : length bytes ≡ 0 → front bytes ≡ nothing
  unfolding front
  front_nothing h = rw (eq-eqb (length bytes) 0 h)

  module _ {n : ℕ} (some : length bytes ≡ 0 → ⊥) (told : TellsRecordLength bytes n) where
    pub front_cut : length bytes < n → front bytes ≡ cut
    unfolding front
    front_cut h = rw (ne_eqb (length bytes) 0 some, ← told, lt-ltb (length bytes) n h)

    pub front_packet : {p : List ℕ} → n ≤ length bytes → p ≡ take (n - 2) (drop 2 bytes) → front bytes ≡ packet p
    unfolding front
    front_packet h e = rw (ne_eqb (length bytes) 0 some, ← told, le-ltb (length bytes) n h, e, told, length_there (omega (arith, length_least)), add-sub_cancel_left)
