-- The head of a picture's file: what stands in front of its scan, as RFC 2435 Appendix B orders it and T.81 B.2 spells it. Assumes
-- nothing.
use Rattle.std.specs.Prelude.{ℕ, ◌+◌, ◌*◌, ◌≤◌, cond, ◌||◌, ◌⊎◌, ◌≡◌, refl, eqb, length, take, drop}
use mathlib.Core.List.{List, [], ◌∷◌, ◌++◌, flat_map}
use Rattle.std.proofs.Math.Logic.{⊎_elim}
use Rattle.std.proofs.Common.{arith, length-append, length-take, length-drop}
use borrow.Author.Tests.{ne_eqb}
use Rattle.laws.specs.Spelled.{spelled}
use Rattle.laws.specs.Truth.{split}
use Rattle.slices.specs.Slices.{PutsAt}
use Rattle.head.specs.Huffman.{HuffmanTable, luma_dc, luma_ac, chroma_dc, chroma_ac}
use Rattle.head.specs.Segment.{soi, dqt, dri, sof0, dht, sos, marker, segment, paired, length_segment}
use Rattle.head.specs.declared.Frame.{Frame}

-- A component: its number, and the number that its quantiser table and both its Huffman tables share.
pub record Component : Type 0 where
  pub number : ℕ
  pub tables : ℕ

-- "Component numbers are 0, 1, 2": luma's, and from there on those of the two of chroma.
abbrev pub first_component : ℕ
first_component = 0

abbrev pub luma : Component
luma = record { number = first_component; tables = 0 }

abbrev pub chroma : List Component
chroma = record { number = first_component + 1; tables = 1 } ∷ record { number = first_component + 2; tables = 1 } ∷ []

abbrev pub components : List Component
components = luma ∷ chroma

-- How often luma is sampled across and down for each sample of chroma: "0x21 for types 0 and 64, 0x22 for 1 and 65".
unfoldable pub luma_sampling : ℕ → ℕ
luma_sampling kind = cond (eqb kind 0 || eqb kind 64) (paired 2 1) (paired 2 2)

abbrev pub chroma_sampling : ℕ
chroma_sampling = paired 1 1

-- DQT: precision 0 and the table's number, and its 64 entries in zigzag order.
abbrev pub quantiser : ℕ → List ℕ → List ℕ
quantiser number entries = segment dqt (paired 0 number ∷ entries)

-- Of the 128 table bytes: luma first.
unfoldable pub quantisers : List ℕ → List ℕ
quantisers tables = quantiser 0 (take 64 tables) ++ quantiser 1 (drop 64 tables)

-- DRI, where there is an interval.
unfoldable pub restarts : ℕ → List ℕ
restarts interval = cond (eqb interval 0) [] (segment dri (spelled 2 interval))

-- SOF0: 8 bits to a sample, the sides in pixels, how many components there are, and each one's number, sampling and quantiser table.
abbrev pub in_frame : ℕ → Component → List ℕ
in_frame sampling c = c.number ∷ sampling ∷ c.tables ∷ []

unfoldable pub frame_header : Frame → List ℕ
frame_header f =
    segment sof0
    (8
    ∷ (spelled 2 (8 * f.height)
    ++ spelled 2 (8 * f.width)
    ++ (length components ∷ (in_frame (luma_sampling f.kind) luma ++ flat_map (in_frame chroma_sampling) chroma))))

-- DHT: the class, 0 for DC and 1 for AC, with the table's number, and the table.
abbrev pub huffman : ℕ → ℕ → HuffmanTable → List ℕ
huffman class number table = segment dht (paired class number ∷ (table.counts ++ table.symbols))

unfoldable pub huffman_tables : List ℕ
huffman_tables = huffman 0 0 luma_dc ++ huffman 1 0 luma_ac ++ huffman 0 1 chroma_dc ++ huffman 1 1 chroma_ac

-- SOS: how many components there are, and each one's number with that of its tables, DC and AC; all 64 coefficients, each in full.
abbrev pub in_scan : Component → List ℕ
in_scan c = c.number ∷ paired c.tables c.tables ∷ []

unfoldable pub scan_header : List ℕ
scan_header = segment sos (length components ∷ (flat_map in_scan components ++ (0 ∷ 63 ∷ paired 0 0 ∷ [])))

-- All of it, from the frame and the 128 table bytes.
unfoldable pub head : Frame → List ℕ → List ℕ
head f tables =
    marker soi ++ quantisers tables ++ restarts f.interval ++ frame_header f ++ huffman_tables ++ scan_header

-- "The head is 605 bytes, or 611 with DRI."
unfoldable pub head_length : ℕ → ℕ
head_length interval = cond (eqb interval 0) 605 611

-- The outcome of `length`.
abbrev pub TellsHeadLength : ℕ → ℕ → Type 0
TellsHeadLength interval n = n ≡ head_length interval

-- The outcome of `put`: the head stands in front, and all is as it was where it does not fit.
abbrev pub PutsHead : Frame → List ℕ → List ℕ → List ℕ → Type 0
PutsHead f tables before after = PutsAt before 0 (head f tables) after

-- ---- laws

module _ (kind : ℕ) where
  pub sampled_2_by_1 : (kind ≡ 0) ⊎ (kind ≡ 64) → luma_sampling kind ≡ 0x21
  unfolding luma_sampling
  sampled_2_by_1 h = ⊎_elim (λ e. rw e) (λ e. rw e) h

  pub sampled_2_by_2 : (kind ≡ 0 → ⊥) → (kind ≡ 64 → ⊥) → luma_sampling kind ≡ 0x22
  unfolding luma_sampling
  sampled_2_by_2 a b = rw (ne_eqb kind 0 a, ne_eqb kind 64 b)

-- without an interval, and with one
pub no_restarts : restarts 0 ≡ []
unfolding restarts
no_restarts = refl

pub some_restarts : (interval : ℕ) → (interval ≡ 0 → ⊥) → restarts interval ≡ segment dri (spelled 2 interval)
unfolding restarts
some_restarts interval n = rw (ne_eqb interval 0 n)

pub length_restarts : (interval : ℕ) → 605 + length (restarts interval) ≡ head_length interval
unfolding restarts head_length segment spelled
length_restarts interval = split (eqb interval 0) (λ e. rw e) (λ e. rw e)

pub length_quantisers : (tables : List ℕ) → length tables ≡ 128 → length (quantisers tables) ≡ 138
unfolding quantisers
length_quantisers tables long = simp (length-append, length_segment, length-take, length-drop) (omega (arith, long))

pub length_frame_header : (f : Frame) → length (frame_header f) ≡ 19
unfolding frame_header segment spelled flat_map
length_frame_header f = refl

pub length_huffman_tables : length huffman_tables ≡ 432
unfolding huffman_tables segment spelled luma_dc luma_ac chroma_dc chroma_ac
length_huffman_tables = refl

pub length_scan_header : length scan_header ≡ 14
unfolding scan_header segment spelled flat_map
length_scan_header = refl

pub length_head : (f : Frame) (tables : List ℕ) → length tables ≡ 128 → length (head f tables) ≡ head_length f.interval
unfolding head
length_head f tables long =
    simp (length-append, length_frame_header, length_huffman_tables, length_scan_header)
    (omega (arith, length_quantisers tables long, length_restarts f.interval))

pub head_small : (interval : ℕ) → head_length interval ≤ 611
unfolding head_length
head_small interval = split (eqb interval 0) (λ e. rw e (omega arith)) (λ e. rw e (omega arith))
