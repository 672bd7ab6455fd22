-- A picture to be sent. Assumes nothing.
use Rattle.std.specs.Prelude.{ℕ, List}
use Rattle.sender.specs.declared.Picture as Lent
use Rattle.wire.specs.declared.Header.{Header}

-- Its header fields, its tables, which may be none, and its scan.
pub record Picture : Type 0 where
  pub header : Header
  pub tables : List ℕ
  pub scan : List ℕ

abbrev pub picture : Header → List ℕ → List ℕ → Picture
picture header tables scan = record { header = header; tables = tables; scan = scan }

-- The same of a picture whose tables and scan are lent.
abbrev pub contents : Lent.Picture → Picture
contents p = picture p.header p.tables.now p.scan.now
