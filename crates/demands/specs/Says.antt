-- What a receiver reads from packet k of a picture. Assumes nothing.
use Rattle.std.specs.Prelude.{ℕ, ◌&&◌, List, ◌≡◌, eqb, true, Ok}
use Rattle.fragments.specs.Fragments.{fragment_at, bytes_of}
use Rattle.fragments.specs.declared.Fragment.{Fragment}
use Rattle.receiver.specs.FirstPacket.{is_first, brings}
use Rattle.receiver.specs.Verdict.{fragment_of}
use Rattle.sender.specs.Picture.{Picture}
use Rattle.sender.specs.declared.Stamp.{Stamp}
use Rattle.wire.specs.Reading.{reading, scan_in, tables_in}
use Rattle.wire.specs.declared.Packet.{Packet}
use Rattle.demands.specs.Delivery.{brings_tables}

-- Packet k of a picture says cut k, and brings the tables if it is the first.
pub record Says (s : Stamp) (p : Picture) (cs : List Fragment) (k : ℕ) (bytes : List ℕ) : Type 0 where
  pub said : Packet
  pub read : reading s.source bytes ≡ Ok said
  pub covers : fragment_of said ≡ fragment_at cs k
  pub time : said.time ≡ s.time
  pub header : said.header ≡ p.header
  pub scan : scan_in bytes said ≡ bytes_of p.scan (fragment_at cs k)
  pub first : is_first said ≡ eqb k 0
  pub brings : brings said ≡ (eqb k 0 && brings_tables p)
  pub tables : (eqb k 0 && brings_tables p) ≡ true → tables_in bytes said ≡ p.tables
