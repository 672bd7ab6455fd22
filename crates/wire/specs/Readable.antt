-- What is known of a packet that is read. Assumes nothing.
use Rattle.std.specs.Prelude.{ℕ, ◌+◌, ◌^◌, ◌≤◌, ◌<◌, Bool, true, false, List, ◌⊎◌, ◌≡◌, refl, eqb, length, drop, Ok, Err}
use Rattle.std.proofs.Common.{append-nil, arith, length-take, length-drop, take_all}
use Rattle.std.proofs.Math.Logic.{inl, inr, ⊎_elim}
use Rattle.std.proofs.Math.Path.{sym}
use borrow.Author.Tests.{eqb-true, eqb-false}
use Rattle.laws.specs.Each.{Each, each_take, each_drop, each_weaken, each_both}
use Rattle.laws.specs.Any.{any_none}
use Rattle.laws.specs.Truth.{and_true}
use Rattle.laws.specs.Within.{Between}
use Rattle.replies.specs.Checks.{Judged, Passed, judged, both_passed, numbered, refused_by}
use Rattle.replies.specs.Refusal.{number}
use Rattle.replies.specs.declared.Refusal.{Refusal}
use Rattle.wire.specs.Field.{Bytes, byte_small, field_small}
use Rattle.wire.specs.Lawful.{Lawful}
use Rattle.wire.specs.Main.{main, main_end}
use Rattle.wire.specs.Passed.{RtpPassed, JpegPassed, rtp_passed, jpeg_passed}
use Rattle.wire.specs.Reading.{rtp_checks, jpeg_checks, checks, header_of, said, answered, reading, part_of, scan_in, filled_up, tables_in}
use Rattle.wire.specs.Restart.{interval, interval_read, interval_none}
use Rattle.wire.specs.Rtp.{longest, payload, payload_length, length_payload, payload_part, payload_from, payload_inside, payload_bytes, marker_small}
use Rattle.wire.specs.TableSource.{table_source, is_in_band, is_always_brought}
use Rattle.wire.specs.Tables.{has_table_header, tables_at, tables_length, scan_at, tables, is_zero, Come, none_or_come, always_come}
use Rattle.wire.specs.declared.Packet.{Packet}

-- Tables that a packet brings: it is the first of its picture, they lie inside the packet, and none of the 128 is 0.
pub record Brought (p : List ℕ) (s : Packet) : Type 0 where
  pub first : s.offset ≡ 0
  pub in_band : is_in_band (table_source s.header.q) ≡ true
  pub some : s.tables.length ≡ 0 → ⊥
  pub inside : s.tables.at + s.tables.length ≤ length p
  pub entries : Each (Between 1 255) (tables_in p s)

-- A packet p that is read, and what it says, s.
pub record Readable (p : List ℕ) (s : Packet) : Type 0 where
  pub short : length p ≤ longest
  pub marker : s.marker ≤ 1
  pub time : s.time < 2 ^ 32
  pub offset : s.offset < 2 ^ 24
  pub header : Lawful s.header
  pub tables : (s.tables.length ≡ 0) ⊎ Brought p s
  pub always : s.offset ≡ 0 → is_always_brought (table_source s.header.q) ≡ true → Brought p s
  pub scan : 1 ≤ s.scan.length
  pub inside : s.scan.at + s.scan.length ≤ length p

-- A packet that is read has passed every check, and says what the definition says.
pub record Passes (source : ℕ) (p : List ℕ) (s : Packet) : Type 0 where
  pub rtp : RtpPassed source p
  pub jpeg : JpegPassed (payload p)
  pub says : s ≡ said p

passed : (j : Judged) {s t : Packet} → answered j t ≡ Ok s → (j ≡ Passed) × (s ≡ t)
passed (Ok tt) e = (refl, cc)
passed (Err r) e = absurd (let z : ◌≡◌ {A = ℕ} 0 1 = cc in omega arith)

pub read_passes : (source : ℕ) (p : List ℕ) (s : Packet) → reading source p ≡ Ok s → Passes source p s
unfolding reading
read_passes source p s e =
    let t = passed (judged (checks source p)) e in
    let both = both_passed (rtp_checks source p) (jpeg_checks (payload p)) t.0 in
    record { rtp = rtp_passed source p both.0; jpeg = jpeg_passed (payload p) both.1; says = t.1 }

refused : (j : Judged) (t : Packet) {r : Refusal} → answered j t ≡ Err r → j ≡ Err r
refused (Ok x) t e = absurd (let z : ◌≡◌ {A = ℕ} 0 1 = cc in omega arith)
refused (Err m) t e = cc

-- a test that the number of each check passes is passed by the number of a refusal
pub read_refused : (source : ℕ) (p : List ℕ) (test : ℕ → Bool) {r : Refusal} → numbered test (checks source p) ≡ true → reading source p ≡ Err r → test (number r) ≡ true
unfolding reading
read_refused source p test a e = refused_by test (checks source p) a (refused (judged (checks source p)) (said p) e)

module _ (b : List ℕ) (bytes : Bytes b) (jpeg : JpegPassed b) where
  lawful : Lawful (header_of b)
  lawful = record {
    kind = jpeg.kind;
    q = jpeg.q;
    width = (let h = jpeg.width in omega arith, omega (arith, byte_small b 6 bytes));
    height = (let h = jpeg.height in omega arith, omega (arith, byte_small b 7 bytes));
    interval = λ e. let some = eqb-false (interval b) 0 (rw e at jpeg.interval) in (omega arith, omega (arith, interval_read b e, field_small b main_end 2 bytes));
    no_interval = λ e. interval_none b e;
  }

-- 128 bytes are as they are when filled up
pub filled_already : (l : List ℕ) → length l ≡ 128 → filled_up l ≡ l
filled_already l e = rw (e, take_all 128 l (omega arith)) (append-nil l)

module _ {source : ℕ} (p : List ℕ) (rtp : RtpPassed source p) (jpeg : JpegPassed (payload p)) where
  long : length (payload p) ≡ payload_length p
  long = length_payload p rtp.headers rtp.fits

  -- the scan data and the tables lie in the packet as they lie in what is left of it
  scan_there : scan_in p (said p) ≡ drop (scan_at (payload p)) (payload p)
  unfolding said
  scan_there = rw (long, payload_from p (scan_at (payload p)))

  part_there : part_of p (said p).tables ≡ tables (payload p)
  unfolding said scan_at
  part_there = sym (payload_part p (tables_length (payload p)) (tables_at (payload p)) (omega (arith, long, jpeg.scan)))

  -- some scan data, all of it in the packet
  some_scan : 1 ≤ (said p).scan.length
  unfolding said
  some_scan = omega (arith, jpeg.scan)

  inside_scan : (said p).scan.at + (said p).scan.length ≤ length p
  unfolding said
  inside_scan = omega (arith, long, jpeg.scan, payload_inside p rtp.headers rtp.fits)

  tables_inside : (said p).tables.at + (said p).tables.length ≤ length p
  unfolding said scan_at
  tables_inside = omega (arith, long, jpeg.scan, payload_inside p rtp.headers rtp.fits)

  module _ (come : Come (payload p)) where
    tables_long : length (tables (payload p)) ≡ 128
    unfolding scan_at
    tables_long = simp (length-take, length-drop) (omega (arith, jpeg.scan, come.long))

    tables_there : tables_in p (said p) ≡ tables (payload p)
    unfolding tables_in
    tables_there = rw part_there (filled_already (tables (payload p)) tables_long)

  module _ (bytes : Bytes p) where
    entries : Come (payload p) → Each (Between 1 255) (tables (payload p))
    entries come =
        each_weaken (λ (v : ℕ). (v < 256) × (is_zero v ≡ false)) (Between 1 255)
        (λ v h. let some = eqb-false v 0 h.1 in (omega arith, omega arith))
        (tables (payload p))
        (each_both (λ (v : ℕ). v < 256) (λ (v : ℕ). is_zero v ≡ false) (tables (payload p)) in_bytes (any_none is_zero (tables (payload p)) come.no_zero))
      where
        in_bytes : Bytes (tables (payload p))
        in_bytes = each_take (λ (v : ℕ). v < 256) (tables_length (payload p)) (drop (tables_at (payload p)) (payload p)) (each_drop (λ (v : ℕ). v < 256) (tables_at (payload p)) (payload p) (payload_bytes p bytes))

    brought : Come (payload p) → Brought p (said p)
    unfolding said has_table_header
    brought come =
        let header = and_true (eqb (main (payload p)).offset 0) (is_in_band (table_source (main (payload p)).q)) come.header in
        record {
          first = eqb-true (main (payload p)).offset 0 header.0;
          in_band = header.1;
          some = λ none. omega (arith, come.long);
          inside = tables_inside;
          entries = rw (tables_there come) (entries come);
        }

    none_or_brought : ((said p).tables.length ≡ 0) ⊎ Brought p (said p)
    unfolding said
    none_or_brought = ⊎_elim (λ none. inl none) (λ come. inr (brought come)) (none_or_come (payload p) jpeg.tables)

    always_brought : (said p).offset ≡ 0 → is_always_brought (table_source (said p).header.q) ≡ true → Brought p (said p)
    unfolding said
    always_brought first always = brought (always_come (payload p) jpeg.tables first always)

    readable : Readable p (said p)
    unfolding said
    readable = record {
      short = rtp.short;
      marker = marker_small p bytes;
      time = omega (arith, field_small p 4 4 bytes);
      offset = omega (arith, field_small (payload p) 1 3 (payload_bytes p bytes));
      header = lawful (payload p) (payload_bytes p bytes) jpeg;
      tables = none_or_brought;
      always = always_brought;
      scan = some_scan;
      inside = inside_scan;
    }

-- The laws for whoever reads packets: what is known of one, its scan data, and the tables that it brings.
module _ (source : ℕ) (p : List ℕ) (s : Packet) (read : reading source p ≡ Ok s) where
  pub read_packet : Bytes p → Readable p s
  read_packet bytes = let t = read_passes source p s read in rw t.says (readable p t.rtp t.jpeg bytes)

  pub read_scan : scan_in p s ≡ drop (scan_at (payload p)) (payload p)
  read_scan = let t = read_passes source p s read in rw t.says (scan_there p t.rtp t.jpeg)

  pub scan_some : 1 ≤ s.scan.length
  scan_some = let t = read_passes source p s read in rw t.says (some_scan p t.rtp t.jpeg)

  pub scan_inside : s.scan.at + s.scan.length ≤ length p
  scan_inside = let t = read_passes source p s read in rw t.says (inside_scan p t.rtp t.jpeg)

  pub scan_short : s.scan.length ≤ longest
  scan_short = omega (arith, scan_inside, (read_passes source p s read).rtp.short)

  pub scan_long : length (scan_in p s) ≡ s.scan.length
  scan_long = simp (length-take, length-drop) (omega (arith, scan_inside))

  -- the tables of the table header, none where there is none
  pub read_tables : tables_in p s ≡ filled_up (tables (payload p))
  unfolding tables_in
  read_tables = let t = read_passes source p s read in rw t.says (rw (part_there p t.rtp t.jpeg))
