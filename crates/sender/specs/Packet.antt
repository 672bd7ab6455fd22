-- The packet that carries a fragment of a picture's scan: RFC 3550 section 5.1 and RFC 2435 section 3.1, whose diagrams stand with
-- the reader's definitions. Assumes nothing.
use Rattle.std.specs.Prelude.{◌≡◌, ℕ, ◌+◌, ◌*◌, ◌%◌, ◌^◌, ◌≤◌, true, false, cond, List, [], ◌∷◌, ◌++◌, length, ◌≢◌}
use Rattle.std.proofs.Common.{arith, ne_eqb}
use Rattle.std.proofs.Math.ListN.{length-append}
use Rattle.fragments.specs.Fragments.{stop, bytes_of, length_bytes_of}
use Rattle.fragments.specs.declared.Fragment.{Fragment}
use Rattle.laws.specs.Lists.{empty}
use Rattle.laws.specs.Spelled.{spelled}
use Rattle.laws.specs.Truth.{split}
use Rattle.wire.specs.Kind.{restarts_of, are_present}
use Rattle.wire.specs.Rtp.{fixed_end}
use Rattle.wire.specs.TableSource.{table_source, is_in_band}
use Rattle.wire.specs.Tables.{table_header_due}
use Rattle.wire.specs.declared.Header.{Header}
use Rattle.sender.specs.Picture.{Picture}
use Rattle.sender.specs.declared.Stamp.{Stamp}

-- The sequence number of packet k.
abbrev pub sequence : Stamp → ℕ → ℕ
sequence s k = (s.start + k) % 2 ^ 16

-- Version 2; padding, extension and CSRC count 0. The marker, and payload type 26.
abbrev pub rtp_header : Stamp → ℕ → ℕ → List ℕ
rtp_header s k marker = (2 * 64) ∷ (marker * 128 + 26) ∷ (spelled 2 (sequence s k) ++ (spelled 4 s.time ++ spelled 4 s.source))

-- Type, Q, width and height.
abbrev pub fields : Header → List ℕ
fields h = h.kind ∷ h.q ∷ h.width ∷ h.height ∷ []

-- Type-specific 0, and the offset.
abbrev pub main_header : Header → ℕ → List ℕ
main_header h offset = 0 ∷ (spelled 3 offset ++ fields h)

-- For types with restart intervals: the interval, and a word of F, L and count.
unfoldable pub restart_header : Header → ℕ → List ℕ
restart_header h word = cond (are_present (restarts_of h.kind)) (spelled 2 h.interval ++ spelled 2 word) []

-- F = L = 1, and count 0x3FFF.
abbrev pub not_by_intervals : ℕ
not_by_intervals = 1 * 2 ^ 15 + 1 * 2 ^ 14 + 16383

-- Where a table header is due: zero byte and precision 0, the length, and the tables.
unfoldable pub table_header : Header → List ℕ → ℕ → List ℕ
table_header h tables offset = cond (table_header_due offset h.q) (0 ∷ 0 ∷ (spelled 2 (length tables) ++ tables)) []

-- The JPEG headers that are due at an offset.
abbrev pub jpeg_headers : Header → List ℕ → ℕ → List ℕ
jpeg_headers h tables offset = main_header h offset ++ (restart_header h not_by_intervals ++ table_header h tables offset)

-- Packet k, which carries the fragment c.
unfoldable pub packet : Stamp → Picture → ℕ → Fragment → List ℕ
packet s p k c = rtp_header s k c.marker ++ (jpeg_headers p.header p.tables c.offset ++ bytes_of p.scan c)

-- ---- laws

module _ (h : Header) (word : ℕ) where
  pub restart_present : are_present (restarts_of h.kind) ≡ true → restart_header h word ≡ spelled 2 h.interval ++ spelled 2 word
  unfolding restart_header
  restart_present e = rw e

  -- when it is empty, for which types it is not, and at most 4 bytes
  pub restart_none : length (restart_header h word) ≡ 0 → restart_header h word ≡ []
  restart_none e = empty (restart_header h word) e

  pub restart_some : (length (restart_header h word) ≢ 0) → are_present (restarts_of h.kind) ≡ true
  unfolding restart_header
  restart_some n = split (are_present (restarts_of h.kind)) (λ e. e) (λ e. absurd (n (rw e)))

  pub restart_small : length (restart_header h word) ≤ 4
  unfolding restart_header spelled
  restart_small = split (are_present (restarts_of h.kind)) (λ e. rw e (omega arith)) (λ e. rw e (omega arith))

module _ (h : Header) (tables : List ℕ) where
  pub tables_due : is_in_band (table_source h.q) ≡ true → table_header h tables 0 ≡ 0 ∷ 0 ∷ (spelled 2 (length tables) ++ tables)
  unfolding table_header
  tables_due e = rw e

  pub tables_made : is_in_band (table_source h.q) ≡ false → table_header h tables 0 ≡ []
  unfolding table_header
  tables_made e = rw e

  -- when it is empty, for which Q it is not, none behind the first packet, and at most 4 bytes beside the tables
  pub tables_none : length (table_header h tables 0) ≡ 0 → table_header h tables 0 ≡ []
  tables_none e = empty (table_header h tables 0) e

  pub tables_some : (length (table_header h tables 0) ≢ 0) → is_in_band (table_source h.q) ≡ true
  tables_some n = split (is_in_band (table_source h.q)) (λ e. e) (λ e. absurd (n (rw (tables_made e))))

  pub tables_past : (offset : ℕ) → (offset ≢ 0) → table_header h tables offset ≡ []
  unfolding table_header
  tables_past offset n = rw (ne_eqb offset 0 n)

  pub tables_small : (offset : ℕ) → length (table_header h tables offset) ≤ 4 + length tables
  unfolding table_header spelled
  tables_small offset = split (table_header_due offset h.q) (λ e. rw e (omega arith)) (λ e. rw e (omega arith))

  pub length_headers : (offset : ℕ) → length (jpeg_headers h tables offset) ≡ 8 + (length (restart_header h not_by_intervals) + length (table_header h tables offset))
  unfolding spelled
  length_headers offset = simp length-append (omega arith)

-- where a packet's scan data begins
abbrev pub scan_begins : Picture → Fragment → ℕ
scan_begins p c = fixed_end + length (jpeg_headers p.header p.tables c.offset)

pub length_packet : (s : Stamp) (p : Picture) (k : ℕ) (c : Fragment) → stop c ≤ length p.scan → length (packet s p k c) ≡ scan_begins p c + c.length
unfolding packet spelled
length_packet s p k c inside =
    omega (arith, length-append (jpeg_headers p.header p.tables c.offset) (bytes_of p.scan c), length_bytes_of p.scan c inside)
