-- What the reader answers: its checks, from 11 to 21, in their order, and what a packet says that passes them all. Assumes nothing.
use Rattle.std.specs.Prelude.{ℕ, ◌+◌, ◌-◌, not, ◌&&◌, ◌||◌, List, [], ◌∷◌, ◌++◌, ◌≡◌, ltb, eqb, length, take, drop, replicate, Result, Ok, Err}
use Rattle.std.proofs.Common.{arith, length-append, length-take}
use Rattle.std.proofs.lemmas.List.{length-replicate}
use Rattle.replies.specs.Checks.{Check, Judged, judged, ◌when◌}
use Rattle.replies.specs.declared.Refusal.{Refusal}
use Rattle.wire.specs.Rtp.{longest, fixed, fixed_end, headers_end, padding_broken, payload}
use Rattle.wire.specs.Kind.{restarts_of, is_not_carried}
use Rattle.wire.specs.TableSource.{table_source, is_reserved}
use Rattle.wire.specs.Main.{main, main_end}
use Rattle.wire.specs.Restart.{has_restart, interval, restart_end}
use Rattle.wire.specs.Tables.{tables_length, tables_at, scan_at, table_rule_broken}
use Rattle.wire.specs.declared.Header.{Header}
use Rattle.wire.specs.declared.Packet.{Packet}
use Rattle.wire.specs.declared.Part.{Part}

-- The checks of the RTP headers, for a source and a packet: 11, 10, 12, 13, 14, 10 (CSRC, extension), 10 (padding).
abbrev pub rtp_checks : ℕ → List ℕ → List Check
rtp_checks source p =
    Refusal.TooLong when ltb longest (length p)
    ∷ Refusal.TooShort when ltb (length p) fixed_end
    ∷ Refusal.OtherVersion when not (eqb (fixed p).version 2)
    ∷ Refusal.OtherPayload when not (eqb (fixed p).payload_type 26)
    ∷ Refusal.OtherSource when not (eqb (fixed p).source source)
    ∷ Refusal.TooShort when ltb (length p) (headers_end p)
    ∷ Refusal.TooShort when padding_broken p
    ∷ []

-- The checks of the JPEG headers, in what is left between the RTP headers and the padding: 10 (main header), 15, 16, 17, 18.
abbrev pub main_checks : List ℕ → List Check
main_checks b =
    Refusal.TooShort when ltb (length b) main_end
    ∷ Refusal.OtherType when is_not_carried (restarts_of (main b).kind)
    ∷ Refusal.OtherTypeSpecific when not (eqb (main b).specific 0)
    ∷ Refusal.QReserved when is_reserved (table_source (main b).q)
    ∷ Refusal.SideZero when (eqb (main b).width 0 || eqb (main b).height 0)
    ∷ []

-- 10 (restart header), 19
abbrev pub restart_checks : List ℕ → List Check
restart_checks b =
    Refusal.TooShort when ltb (length b) (restart_end b)
    ∷ Refusal.IntervalZero when (has_restart b && eqb (interval b) 0)
    ∷ []

-- 10 (table header or its length), 20, 21
abbrev pub table_checks : List ℕ → List Check
table_checks b =
    Refusal.TooShort when ltb (length b) (scan_at b)
    ∷ Refusal.TableRule when table_rule_broken b
    ∷ Refusal.NoScan when eqb (length b) (scan_at b)
    ∷ []

abbrev pub jpeg_checks : List ℕ → List Check
jpeg_checks b = main_checks b ++ restart_checks b ++ table_checks b

-- All of them, the JPEG headers' in what the RTP headers and the padding leave.
abbrev pub checks : ℕ → List ℕ → List Check
checks source p = rtp_checks source p ++ jpeg_checks (payload p)

-- What a packet says.
abbrev pub header_of : List ℕ → Header
header_of b = record {
  kind = (main b).kind;
  q = (main b).q;
  width = (main b).width;
  height = (main b).height;
  interval = interval b;
}

unfoldable pub said : List ℕ → Packet
said p = record {
  marker = (fixed p).marker;
  time = (fixed p).time;
  offset = (main (payload p)).offset;
  header = header_of (payload p);
  tables = record { at = headers_end p + tables_at (payload p); length = tables_length (payload p) };
  scan = record { at = headers_end p + scan_at (payload p); length = length (payload p) - scan_at (payload p) };
}

abbrev pub Reading : Type 0
Reading = Result Packet Refusal

abbrev pub answered : Judged → Packet → Reading
answered (Ok passed) s = Ok s
answered (Err r) s = Err r

unfoldable pub reading : ℕ → List ℕ → Reading
reading source p = answered (judged (checks source p)) (said p)

-- The bytes of a part of a packet: those that the packet has there.
abbrev pub part_of : List ℕ → Part → List ℕ
part_of p r = take r.length (drop r.at p)

abbrev pub scan_in : List ℕ → Packet → List ℕ
scan_in p s = part_of p s.scan

-- The tables that a packet brings, always 128 bytes: filled up with 0.
abbrev pub filled_up : List ℕ → List ℕ
filled_up l = take 128 l ++ replicate (128 - length l) 0

unfoldable pub tables_in : List ℕ → Packet → List ℕ
tables_in p s = filled_up (part_of p s.tables)

-- The outcomes of `read`, of `scan` and of `tables`, the last two by the bytes that they give.
abbrev pub Reads : ℕ → List ℕ → Reading → Type 0
Reads source p r = r ≡ reading source p

abbrev pub GivesScan : List ℕ → Packet → List ℕ → Type 0
GivesScan p s l = l ≡ scan_in p s

abbrev pub GivesTables : List ℕ → Packet → List ℕ → Type 0
GivesTables p s l = l ≡ tables_in p s

-- ---- laws

pub length_tables_in : (p : List ℕ) (s : Packet) → length (tables_in p s) ≡ 128
unfolding tables_in
length_tables_in p s = simp (length-append, length-take, length-replicate) (omega arith)
