-- A packet of lawful header fields and a marker of 0 or 1 is made of bytes, where its tables and its scan are. Assumes nothing.
use Rattle.std.specs.Prelude.{ℕ, ◌<◌, ◌≤◌, List, ◌++◌, length, drop}
use native.Mathlib.Omega.{arith}
use Rattle.fragments.specs.Fragments.{bytes_of}
use Rattle.fragments.specs.declared.Fragment.{Fragment}
use Rattle.laws.specs.Each.{each_append, each_take, each_drop}
use Rattle.laws.specs.Spelled.{spelled, each_spelled}
use Rattle.laws.specs.Truth.{split}
use Rattle.wire.specs.Field.{Bytes}
use Rattle.wire.specs.Kind.{restarts_of, are_present}
use Rattle.wire.specs.Lawful.{Lawful, kind_small, q_small}
use Rattle.wire.specs.Tables.{table_header_due}
use Rattle.wire.specs.declared.Header.{Header}
use Rattle.sender.specs.Packet.{sequence, rtp_header, fields, main_header, restart_header, not_by_intervals, table_header, jpeg_headers, packet}
use Rattle.sender.specs.Picture.{Picture}
use Rattle.sender.specs.declared.Stamp.{Stamp}

abbrev Byte : ℕ → Type 0
Byte v = v < 256

module _ (h : Header) (lawful : Lawful h) where
  main_bytes : (offset : ℕ) → Bytes (main_header h offset)
  main_bytes offset = (
    omega arith,
    each_append Byte (spelled 3 offset) (fields h) (each_spelled 3 offset)
        (omega (arith, kind_small lawful), (omega (arith, q_small lawful), (omega (arith, lawful.width), (omega (arith, lawful.height), tt)))),
  )

  restart_bytes : (word : ℕ) → Bytes (restart_header h word)
  unfolding restart_header
  restart_bytes word =
      split (are_present (restarts_of h.kind))
      (λ e. rw e (each_append Byte (spelled 2 h.interval) (spelled 2 word) (each_spelled 2 h.interval) (each_spelled 2 word)))
      (λ e. rw e tt)

  table_bytes : (tables : List ℕ) (offset : ℕ) → Bytes tables → Bytes (table_header h tables offset)
  unfolding table_header
  table_bytes tables offset bytes =
      split (table_header_due offset h.q)
      (λ e. rw e (omega arith, (omega arith, each_append Byte (spelled 2 (length tables)) tables (each_spelled 2 (length tables)) bytes)))
      (λ e. rw e tt)

  headers_bytes : (tables : List ℕ) (offset : ℕ) → Bytes tables → Bytes (jpeg_headers h tables offset)
  headers_bytes tables offset bytes =
      each_append Byte (main_header h offset) (restart_header h not_by_intervals ++ table_header h tables offset) (main_bytes offset)
      (each_append Byte (restart_header h not_by_intervals) (table_header h tables offset) (restart_bytes not_by_intervals) (table_bytes tables offset bytes))

rtp_bytes : (s : Stamp) (k marker : ℕ) → marker ≤ 1 → Bytes (rtp_header s k marker)
rtp_bytes s k marker small = (
  omega arith,
  (
    omega arith,
    each_append Byte (spelled 2 (sequence s k)) (spelled 4 s.time ++ spelled 4 s.source) (each_spelled 2 (sequence s k))
        (each_append Byte (spelled 4 s.time) (spelled 4 s.source) (each_spelled 4 s.time) (each_spelled 4 s.source)),
  ),
)

pub packet_bytes : (s : Stamp) (p : Picture) (k : ℕ) (c : Fragment) → Lawful p.header → Bytes p.tables → Bytes p.scan → c.marker ≤ 1 → Bytes (packet s p k c)
unfolding packet
packet_bytes s p k c lawful tables scan marker =
    let headers = jpeg_headers p.header p.tables c.offset in
    each_append Byte (rtp_header s k c.marker) (headers ++ bytes_of p.scan c) (rtp_bytes s k c.marker marker)
    (each_append Byte headers (bytes_of p.scan c) (headers_bytes p.header lawful p.tables c.offset tables)
    (each_take Byte c.length (drop c.offset p.scan) (each_drop Byte c.offset p.scan scan)))
