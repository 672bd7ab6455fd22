-- The RTP headers of a packet, its padding, and what is left for the payload: RFC 3550 sections 5.1 and 5.3.1. Assumes nothing.
use Rattle.std.specs.Prelude.{ℕ, ◌+◌, ◌-◌, ◌*◌, ◌/◌, ◌%◌, ◌≤◌, ◌<◌, Bool, ◌&&◌, ◌||◌, List, ◌≡◌, eqb, take, drop}
use Rattle.std.proofs.Math.Bool.{true, false, cond}
use native.Mathlib.Omega.{arith}
use borrow.Author.Tests.{ltb-false}
use Rattle.std.proofs.Math.Dec.{ltb}
use Rattle.std.proofs.Math.ListN.{length}
use Rattle.std.proofs.Common.{length-take, length-drop}
use Rattle.std.proofs.Math.Seq.{drop-drop}
use Rattle.laws.specs.Each.{each_take, each_drop}
use Rattle.laws.specs.Lists.{drop_take, part_of_part}
use Rattle.laws.specs.Truth.{or_none}
use Rattle.wire.specs.Field.{Bytes, byte, field, byte_small}

-- A longer packet is not read.
abbrev pub longest : ℕ
longest = 2048

-- The fixed header.
--
--      0                   1                   2                   3
--      0 1 2 3 4 5 6 7 8 9 0 1 2 3 4 5 6 7 8 9 0 1 2 3 4 5 6 7 8 9 0 1
--     +---+-+-+-------+-+-------------+-------------------------------+
--   0 | V |P|X|  CC   |M|     PT      |           sequence            |
--     +---+-+-+-------+-+-------------+-------------------------------+
--   4 |                          time stamp                           |
--     +---------------------------------------------------------------+
--   8 |                            source                             |
--     +---------------------------------------------------------------+
pub record Fixed : Type 0 where
  pub version : ℕ
  pub padding : ℕ
  pub extension : ℕ
  pub csrcs : ℕ
  pub marker : ℕ
  pub payload_type : ℕ
  pub time : ℕ
  pub source : ℕ

abbrev pub fixed : List ℕ → Fixed
fixed p = record {
  version = byte p 0 / 64;
  padding = byte p 0 / 32 % 2;
  extension = byte p 0 / 16 % 2;
  csrcs = byte p 0 % 16;
  marker = byte p 1 / 128;
  payload_type = byte p 1 % 128;
  time = field p 4 4;
  source = field p 8 4;
}

abbrev pub fixed_end : ℕ
fixed_end = 12

-- Then 4 bytes for each CSRC.
abbrev pub csrc_end : List ℕ → ℕ
csrc_end p = fixed_end + 4 * (fixed p).csrcs

-- Then, if X is set, the extension: 4 bytes whose last two count the words of 4 bytes that follow.
--
--     +-------------------------------+-------------------------------+
--     |      defined by profile       |         length, words         |
--     +-------------------------------+-------------------------------+
--
-- Where these 4 bytes are cut off, the end is past that of the packet, whatever is left of the length.
unfoldable pub headers_end : List ℕ → ℕ
headers_end p = csrc_end p + cond (eqb (fixed p).extension 1) (4 + 4 * field p (csrc_end p + 2) 2) 0

-- If P is set, the packet's last byte says how many final bytes to drop, itself included.
unfoldable pub dropped : List ℕ → ℕ
dropped p = cond (eqb (fixed p).padding 1) (byte p (length p - 1)) 0

-- It must be at least 1, and no more than the bytes after all RTP headers.
unfoldable pub padding_broken : List ℕ → Bool
padding_broken p = eqb (fixed p).padding 1 && (ltb (dropped p) 1 || ltb (length p - headers_end p) (dropped p))

-- What is left between headers and padding.
unfoldable pub payload_length : List ℕ → ℕ
payload_length p = length p - dropped p - headers_end p

unfoldable pub payload : List ℕ → List ℕ
payload p = take (payload_length p) (drop (headers_end p) p)

-- A place and a list: where the RTP headers of a packet end, and what is left there. The place is small, since the packet is.
pub record Rest (p : List ℕ) (start : ℕ) (b : List ℕ) : Type 0 where
  pub place : start ≡ headers_end p
  pub bytes : b ≡ payload p
  pub near : start ≤ longest

-- ---- laws

module _ (p : List ℕ) where
  pub padding_fits : padding_broken p ≡ false → dropped p ≤ length p - headers_end p
  unfolding padding_broken dropped
  padding_fits e = go (eqb (fixed p).padding 1) e
    where
      go : (t : Bool) → (t && (ltb (cond t (byte p (length p - 1)) 0) 1 || ltb (length p - headers_end p) (cond t (byte p (length p - 1)) 0))) ≡ false → cond t (byte p (length p - 1)) 0 ≤ length p - headers_end p
      go true h = ltb-false (length p - headers_end p) (byte p (length p - 1)) (or_none (ltb (byte p (length p - 1)) 1) (ltb (length p - headers_end p) (byte p (length p - 1))) h).1
      go false h = omega arith

  -- in a packet whose headers and padding fit into it
  module _ (headers : headers_end p ≤ length p) (padding : dropped p ≤ length p - headers_end p) where
    pub length_payload : length (payload p) ≡ payload_length p
    unfolding payload payload_length
    length_payload = simp (length-take, length-drop) (omega arith)

    pub payload_inside : headers_end p + payload_length p ≤ length p
    unfolding payload_length
    payload_inside = omega arith

  -- a part of what is left, and all of it from a place on, as parts of the packet
  pub payload_part : (n t : ℕ) → t + n ≤ payload_length p → take n (drop t (payload p)) ≡ take n (drop (headers_end p + t) p)
  unfolding payload
  payload_part n t fits = part_of_part n t (payload_length p) (headers_end p) p fits

  pub payload_from : (t : ℕ) → drop t (payload p) ≡ take (payload_length p - t) (drop (headers_end p + t) p)
  unfolding payload
  payload_from t = rw (drop_take t (payload_length p) (drop (headers_end p) p), drop-drop t (headers_end p) p)

  pub payload_bytes : Bytes p → Bytes (payload p)
  unfolding payload
  payload_bytes a = each_take (λ (v : ℕ). v < 256) (payload_length p) (drop (headers_end p) p) (each_drop (λ (v : ℕ). v < 256) (headers_end p) p a)

  pub marker_small : Bytes p → (fixed p).marker ≤ 1
  marker_small a = omega (arith, byte_small p 1 a)
