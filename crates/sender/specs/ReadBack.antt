-- The reader gives back what was sent: the packet of any fragment of a picture's scan, however the scan is cut. Assumes nothing.
use Rattle.std.specs.Prelude.{◌≡◌, ℕ, ◌+◌, ◌^◌, ◌<◌, ◌≤◌, true, false, cond, ◌&&◌, List, [], ◌∷◌, ◌++◌, length, drop, ◌==◌, nat_eq, Ok}
use Rattle.std.proofs.Common.{append_assoc, sym, ◌∙◌, add-zero}
use Rattle.std.proofs.Math.Logic.{⊎_elim}
use Rattle.std.proofs.Math.Path.{ap}
use Rattle.std.proofs.Math.Nat.{add_assoc}
use native.Mathlib.Omega.{arith}
use borrow.Author.Tests.{le-ltb, ne_eqb}
use Rattle.std.proofs.Math.ListN.{length-drop}
use Rattle.std.proofs.Math.Seq.{take_all, get_or-drop, drop-drop, take-append_seam, drop-append_seam}
use Rattle.fragments.specs.Fragments.{stop, fragment_at, bytes_of, length_bytes_of}
use Rattle.fragments.specs.Tiles.{Tiles, tiles_inside}
use Rattle.fragments.specs.declared.Fragment.{Fragment}
use Rattle.laws.specs.Lists.{empty}
use Rattle.laws.specs.Spelled.{spelled}
use Rattle.laws.specs.Truth.{split, never_both, and_true, same}
use Rattle.replies.specs.Checks.{judged, passed_first}
use Rattle.replies.specs.Checks.{Passed}
use Rattle.wire.specs.Field.{field, field_2}
use Rattle.wire.specs.Kind.{restarts_of, are_present}
use Rattle.wire.specs.Lawful.{Lawful}
use Rattle.wire.specs.Main.{main, main_end}
use Rattle.wire.specs.Readable.{read_scan, read_tables}
use Rattle.wire.specs.Reading.{rtp_checks, jpeg_checks, header_of, said, reading, scan_in, filled_up, tables_in}
use Rattle.wire.specs.Restart.{has_restart, interval, restart_end}
use Rattle.wire.specs.Rtp.{longest, fixed, fixed_end, headers_end, dropped, padding_broken, payload_length, payload}
use Rattle.wire.specs.TableSource.{table_source, is_in_band}
use Rattle.wire.specs.Tables.{has_table_header, tables_length, precision, tables_at, scan_at, tables, table_rule_broken, rule_without, rule_none, rule_full}
use Rattle.wire.specs.declared.Packet.{Packet}
use Rattle.sender.specs.Fit.{tables_fit, none_or_full}
use Rattle.sender.specs.Packet.{rtp_header, main_header, restart_header, not_by_intervals, table_header, scan_begins, packet, length_packet}
use Rattle.sender.specs.Picture.{Picture}
use Rattle.sender.specs.declared.Stamp.{Stamp}

-- A picture that may be sent, by its header fields and its tables; and a stamp of which each value is within its field.
pub record Sendable (s : Stamp) (p : Picture) : Type 0 where
  pub header : Lawful p.header
  pub tables : tables_fit (table_source p.header.q) p.tables ≡ true
  pub time : s.time < 2 ^ 32
  pub source : s.source < 2 ^ 32

-- What a fragment needs for its packet to be read back. Its marker is not asked about; where fragments tile, it is 0 or 1.
pub record Carried (p : Picture) (c : Fragment) : Type 0 where
  pub some : 1 ≤ c.length
  pub inside : stop c ≤ length p.scan
  pub offset : c.offset < 2 ^ 24
  pub short : scan_begins p c + c.length ≤ longest

-- The picture's tables come with its first packet.
abbrev pub tables_due : Picture → ℕ → List ℕ
tables_due p offset = cond (offset == 0) p.tables []

-- What a reader of that source makes of the bytes of a packet that carries the fragment c.
pub record ReadBack (s : Stamp) (p : Picture) (c : Fragment) (bytes : List ℕ) : Type 0 where
  pub said : Packet
  pub read : reading s.source bytes ≡ Ok said
  pub marker : said.marker ≡ c.marker
  pub time : said.time ≡ s.time
  pub offset : said.offset ≡ c.offset
  pub header : said.header ≡ p.header
  pub length_of_tables : said.tables.length ≡ length (tables_due p c.offset)
  pub tables : tables_in bytes said ≡ filled_up (tables_due p c.offset)
  pub scan_length : said.scan.length ≡ c.length
  pub scan : scan_in bytes said ≡ bytes_of p.scan c

-- A picture that may be sent, cut in any way: its cuts, at most 64, tile the scan, an offset reaches all of it, and each goes into a
-- packet.
pub record Cut (s : Stamp) (p : Picture) (cs : List Fragment) : Type 0 where
  pub sendable : Sendable s p
  pub tiles : Tiles 0 cs (length p.scan)
  pub few : length cs ≤ 64
  pub reach : length p.scan ≤ 2 ^ 24
  pub short : (k : ℕ) → k < length cs → scan_begins p (fragment_at cs k) + (fragment_at cs k).length ≤ longest

-- ---- laws

-- the RTP header, in front of anything
module _ (s : Stamp) (k m : ℕ) (b : List ℕ) where
  payload_behind : payload (rtp_header s k m ++ b) ≡ b
  unfolding payload payload_length dropped headers_end spelled
  payload_behind = take_all (payload_length (rtp_header s k m ++ b)) b (omega arith)

  time_read : s.time < 2 ^ 32 → (fixed (rtp_header s k m ++ b)).time ≡ s.time
  unfolding field spelled
  time_read small = omega arith

  rtp_passes : s.source < 2 ^ 32 → length (rtp_header s k m ++ b) ≤ longest → judged (rtp_checks s.source (rtp_header s k m ++ b)) ≡ Passed
  unfolding judged padding_broken headers_end field spelled
  rtp_passes from short =
      let p = rtp_header s k m ++ b in
      rw (le-ltb longest (length p) short, le-ltb (length p) fixed_end (omega arith), same (fixed p).payload_type 26 (omega arith), same (fixed p).source s.source (omega arith))

-- What the reader makes of the tables that are due, and of the scan data behind them.
record TablesRead (b due scan : List ℕ) : Type 0 where
  kept : table_rule_broken b ≡ false
  long : tables_length b ≡ length due
  same : tables b ≡ due
  behind : drop (scan_at b) b ≡ scan

module _ (b t scan : List ℕ) (fit : tables_fit (table_source (main b).q) t ≡ true) where
  -- behind a table header
  module _ (header : has_table_header b ≡ true) (there : drop (restart_end b) b ≡ 0 ∷ 0 ∷ (spelled 2 (length t) ++ (t ++ scan))) where
    narrow : precision b ≡ 0
    unfolding precision
    narrow = rw (← get_or-drop (restart_end b) b 1 0, there)

    length_read : tables_length b ≡ length t
    unfolding tables_length spelled
    length_read =
        rw (header, field_2 b (restart_end b + 2), add_assoc (restart_end b) 2 1, ← get_or-drop (restart_end b) b 2 0, ← get_or-drop (restart_end b) b 3 0, there)
        (⊎_elim (λ none. omega arith) (λ f. omega arith) (none_or_full (table_source (main b).q) t fit))

    tables_there : drop (tables_at b) b ≡ t ++ scan
    unfolding tables_at spelled
    tables_there = rw (header, ← drop-drop 4 (restart_end b) b, there)

    tables_read : tables b ≡ t
    tables_read = rw (tables_there, length_read) (take-append_seam t scan)

    first : nat_eq (main b).offset 0 ≡ true
    unfolding has_table_header
    first = (and_true ((main b).offset == 0) (is_in_band (table_source (main b).q)) header).0

    with_tables : TablesRead b (cond ((main b).offset == 0) t []) scan
    unfolding scan_at
    with_tables = rw first (record {
      kept = ⊎_elim (λ none. rule_none b header narrow (length_read ∙ none.0) ∙ none.1) (λ f. rule_full b header narrow (length_read ∙ f.1) ∙ rw tables_read f.2) (none_or_full (table_source (main b).q) t fit);
      long = length_read;
      same = tables_read;
      behind = rw (← drop-drop (tables_length b) (tables_at b) b, tables_there, length_read) (drop-append_seam t scan);
    })

  -- without one
  module _ (bare : has_table_header b ≡ false) (there : drop (restart_end b) b ≡ scan) where
    no_length : tables_length b ≡ 0
    unfolding tables_length
    no_length = rw bare

    none_due : cond ((main b).offset == 0) t [] ≡ []
    unfolding has_table_header
    none_due =
        split ((main b).offset == 0)
        (λ first. rw first (⊎_elim (λ none. empty t none.0) (λ f. absurd (never_both f.0 (rw first at bare))) (none_or_full (table_source (main b).q) t fit)))
        (λ later. rw later)

    without_tables : TablesRead b (cond ((main b).offset == 0) t []) scan
    unfolding scan_at tables_at
    without_tables = rw none_due (record {
      kept = rule_without b bare;
      long = no_length;
      same = rw no_length;
      behind = simp (no_length, bare, add-zero) there;
    })

  tables_of : drop (restart_end b) b ≡ cond (has_table_header b) (0 ∷ 0 ∷ (spelled 2 (length t) ++ t)) [] ++ scan → TablesRead b (cond ((main b).offset == 0) t []) scan
  unfolding spelled
  tables_of there = split (has_table_header b) (λ e. with_tables e (rw e at there)) (λ e. without_tables e (rw e at there))

-- A packet's parts: what is due behind the restart header, and behind the RTP header.
abbrev from_tables : Picture → Fragment → List ℕ
from_tables p c = table_header p.header p.tables c.offset ++ bytes_of p.scan c

abbrev body : Picture → Fragment → List ℕ
body p c = main_header p.header c.offset ++ (restart_header p.header not_by_intervals ++ from_tables p c)

packet_parts : (s : Stamp) (p : Picture) (k : ℕ) (c : Fragment) → packet s p k c ≡ rtp_header s k c.marker ++ body p c
unfolding packet
packet_parts s p k c = simp append_assoc

-- what the reader makes of them, the checks in its order
module _ (s : Stamp) (p : Picture) (k : ℕ) (c : Fragment) (sendable : Sendable s p) (carried : Carried p c) where
  offset_read : (main (body p c)).offset ≡ c.offset
  unfolding field spelled
  offset_read = omega arith

  interval_read : interval (body p c) ≡ p.header.interval
  unfolding interval field restart_header spelled
  interval_read = split (are_present (restarts_of p.header.kind)) (λ e. rw e (omega (arith, sendable.header.interval e))) (λ e. rw e (sym (sendable.header.no_interval e)))

  interval_some : (has_restart (body p c) && interval (body p c) == 0) ≡ false
  unfolding spelled
  interval_some = rw interval_read (split (are_present (restarts_of p.header.kind)) (λ e. rw e (ne_eqb p.header.interval 0 (λ z. omega (arith, sendable.header.interval e)))) (λ e. rw e))

  header_read : header_of (body p c) ≡ p.header
  unfolding spelled
  header_read = rw interval_read

  restart_behind : drop (restart_end (body p c)) (body p c) ≡ from_tables p c
  unfolding restart_end restart_header spelled
  restart_behind = split (are_present (restarts_of p.header.kind)) (λ e. rw e) (λ e. rw e)

  tables_sent : TablesRead (body p c) (tables_due p c.offset) (bytes_of p.scan c)
  unfolding has_table_header table_header spelled
  tables_sent = rw offset_read at (tables_of (body p c) p.tables (bytes_of p.scan c) sendable.tables (rw offset_read restart_behind))

  jpeg_passes : judged (jpeg_checks (body p c)) ≡ Passed
  unfolding judged spelled restart_end tables_at scan_at
  jpeg_passes =
      let b = body p c in
      let room : scan_at b < length b = omega (arith, length-drop (scan_at b) b, ap length tables_sent.behind, length_bytes_of p.scan c carried.inside) in
      rw (
        le-ltb (length b) main_end (omega arith),
        sendable.header.kind,
        sendable.header.q,
        ne_eqb p.header.width 0 (λ z. omega arith),
        ne_eqb p.header.height 0 (λ z. omega arith),
        le-ltb (length b) (restart_end b) (omega arith),
        interval_some,
        le-ltb (length b) (scan_at b) (omega arith),
        tables_sent.kept,
        ne_eqb (length b) (scan_at b) (λ z. omega arith),
      )

  short : length (rtp_header s k c.marker ++ body p c) ≤ longest
  short =
      let h : length (packet s p k c) ≤ longest = rw (length_packet s p k c carried.inside) carried.short in
      rw (packet_parts s p k c) at h

  parts_read : reading s.source (rtp_header s k c.marker ++ body p c) ≡ Ok (said (rtp_header s k c.marker ++ body p c))
  unfolding reading
  parts_read =
      let r = rtp_header s k c.marker ++ body p c in
      rw (passed_first (rtp_checks s.source r) (jpeg_checks (payload r)) (rtp_passes s k c.marker (body p c) sendable.source short), payload_behind s k c.marker (body p c), jpeg_passes)

  parts_read_back : ReadBack s p c (rtp_header s k c.marker ++ body p c)
  unfolding said
  parts_read_back =
      let r = rtp_header s k c.marker ++ body p c in
      let behind = payload_behind s k c.marker (body p c) in
      let t : TablesRead (payload r) (tables_due p c.offset) (bytes_of p.scan c) = rw behind tables_sent in
      record {
        said = said r;
        read = parts_read;
        marker = omega arith;
        time = time_read s k c.marker (body p c) sendable.time;
        offset = rw behind offset_read;
        header = rw behind header_read;
        length_of_tables = t.long;
        tables = read_tables s.source r (said r) parts_read ∙ rw t.same;
        scan_length = omega (arith, length-drop (scan_at (payload r)) (payload r), ap length t.behind, length_bytes_of p.scan c carried.inside);
        scan = read_scan s.source r (said r) parts_read ∙ t.behind;
      }

pub read_back : (s : Stamp) (p : Picture) (k : ℕ) (c : Fragment) → Sendable s p → Carried p c → ReadBack s p c (packet s p k c)
read_back s p k c sendable carried = rw (packet_parts s p k c) (parts_read_back s p k c sendable carried)

-- every packet of a picture is read back, however the picture is cut
module _ {s : Stamp} {p : Picture} {cs : List Fragment} (cut : Cut s p cs) where
  pub cut_carried : (k : ℕ) → k < length cs → Carried p (fragment_at cs k)
  cut_carried k index =
      let i = tiles_inside 0 cs (length p.scan) k cut.tiles index in
      record { some = i.some; inside = i.to; offset = omega (arith, i.some, i.to, cut.reach); short = cut.short k index }

  pub cut_read_back : (k : ℕ) → k < length cs → ReadBack s p (fragment_at cs k) (packet s p k (fragment_at cs k))
  cut_read_back k index = read_back s p k (fragment_at cs k) cut.sendable (cut_carried k index)
