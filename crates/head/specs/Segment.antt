-- Markers and marker segments, as T.81 has them in B.1.1. Assumes nothing.
use Rattle.std.specs.Prelude.{ℕ, ◌+◌, ◌*◌, List, [], ◌∷◌, ◌++◌, ◌≡◌, length}
use Rattle.std.proofs.Common.{arith, length-append}
use Rattle.laws.specs.Spelled.{spelled}

-- The second byte of each marker (T.81 table B.1): start and end of image, quantiser tables, restart interval, baseline frame, Huffman
-- tables, scan.
abbrev pub soi : ℕ
soi = 0xD8

abbrev pub eoi : ℕ
eoi = 0xD9

abbrev pub dqt : ℕ
dqt = 0xDB

abbrev pub dri : ℕ
dri = 0xDD

abbrev pub sof0 : ℕ
sof0 = 0xC0

abbrev pub dht : ℕ
dht = 0xC4

abbrev pub sos : ℕ
sos = 0xDA

-- A marker: FF, and the byte that tells which.
abbrev pub marker : ℕ → List ℕ
marker m = 0xFF ∷ m ∷ []

-- A marker segment: the marker, a length of two bytes that counts itself and the content, and the content.
abbrev pub segment_start : ℕ → ℕ → List ℕ
segment_start m length = marker m ++ spelled 2 (2 + length)

unfoldable pub segment : ℕ → List ℕ → List ℕ
segment m content = segment_start m (length content) ++ content

-- Two numbers of four bits in one byte.
abbrev pub paired : ℕ → ℕ → ℕ
paired high low = 16 * high + low

-- ---- laws

pub length_segment : (m : ℕ) (content : List ℕ) → length (segment m content) ≡ 4 + length content
unfolding segment spelled
length_segment m content = simp length-append (omega arith)
