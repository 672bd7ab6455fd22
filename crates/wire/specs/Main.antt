-- The main JPEG header, at the front of the payload: RFC 2435 section 3.1. Assumes nothing.
use Rattle.std.specs.Prelude.{ℕ, List}
use Rattle.wire.specs.Field.{byte, field}

--      0                   1                   2                   3
--      0 1 2 3 4 5 6 7 8 9 0 1 2 3 4 5 6 7 8 9 0 1 2 3 4 5 6 7 8 9 0 1
--     +---------------+-----------------------------------------------+
--   0 | type-specific |                    offset                     |
--     +---------------+---------------+---------------+---------------+
--   4 |     type      |       Q       |     width     |    height     |
--     +---------------+---------------+---------------+---------------+
pub record Main : Type 0 where
  pub specific : ℕ
  pub offset : ℕ
  pub kind : ℕ
  pub q : ℕ
  pub width : ℕ
  pub height : ℕ

abbrev pub main : List ℕ → Main
main b = record {
  specific = byte b 0;
  offset = field b 1 3;
  kind = byte b 4;
  q = byte b 5;
  width = byte b 6;
  height = byte b 7;
}

abbrev pub main_end : ℕ
main_end = 8
