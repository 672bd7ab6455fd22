-- The reader's answer depends on a packet's length and on the places that it goes by, and on nothing else in the packet. Assumes nothing.
use Rattle.std.specs.Prelude.{ℕ, ◌+◌, ◌-◌, ◌*◌, ◌%◌, ◌≤◌, ◌<◌, Bool, true, false, cond, ◌≡◌, refl, ltb, eqb, length, Err}
use mathlib.Core.List.{List, [], ◌∷◌, ◌++◌}
use Rattle.std.proofs.Math.Path.{sym, ap}
use Rattle.std.proofs.Common.{◌∙◌, arith, eqb-true, ltb-true, ltb-false, lt-ltb, length-take, length-drop}
use Rattle.std.proofs.Math.ListN.{take, drop}
use Rattle.laws.specs.Truth.{split}
use Rattle.replies.specs.Checks.{Check, judged, ◌when◌}
use Rattle.replies.specs.declared.Refusal.{Refusal}
use Rattle.wire.specs.Field.{byte, field}
use Rattle.wire.specs.Main.{main_end}
use Rattle.wire.specs.Reading.{jpeg_checks, checks, said, answered, reading}
use Rattle.wire.specs.Restart.{has_restart, interval, restart_end}
use Rattle.wire.specs.Rtp.{fixed, csrc_end, headers_end, dropped, padding_broken, payload, payload_length}
use Rattle.wire.specs.Tables.{has_table_header, precision, tables, tables_length, tables_at, scan_at, table_rule_broken, rule_without}
use Rattle.wire.specs.declared.Packet.{Packet}

-- Two packets whose RTP headers are alike at every place that the reader goes by.
pub record AlikeHeaders (p p' : List ℕ) : Type 0 where
  pub long : length p ≡ length p'
  -- V, P, X and CC; M and PT
  pub first : byte p 0 ≡ byte p' 0
  pub second : byte p 1 ≡ byte p' 1
  pub time : field p 4 4 ≡ field p' 4 4
  pub source : field p 8 4 ≡ field p' 8 4
  -- the length of the extension, if there is one
  pub words : (fixed p).extension ≡ 1 → field p (csrc_end p + 2) 2 ≡ field p' (csrc_end p + 2) 2

-- Two payloads that are alike at every such place.
pub record AlikePayload (b b' : List ℕ) : Type 0 where
  pub specific : byte b 0 ≡ byte b' 0
  pub offset : field b 1 3 ≡ field b' 1 3
  pub kind : byte b 4 ≡ byte b' 4
  pub q : byte b 5 ≡ byte b' 5
  pub width : byte b 6 ≡ byte b' 6
  pub height : byte b 7 ≡ byte b' 7
  -- the interval, if there is a restart header
  pub interval : has_restart b ≡ true → field b main_end 2 ≡ field b' main_end 2
  -- the low bits of the precision, and the length, if there is a table header; and the tables
  pub precision : has_table_header b ≡ true → byte b (restart_end b + 1) % 4 ≡ byte b' (restart_end b + 1) % 4
  pub length : has_table_header b ≡ true → field b (restart_end b + 2) 2 ≡ field b' (restart_end b + 2) 2
  pub tables : take (tables_length b) (drop (tables_at b) b) ≡ take (tables_length b) (drop (tables_at b) b')

-- Two packets that are alike at every such place.
pub record Alike (p p' : List ℕ) : Type 0 where
  pub headers : AlikeHeaders p p'
  -- if something is behind the headers: the number of padding bytes, if there are any, and the payload
  pub padding : headers_end p < length p → (fixed p).padding ≡ 1 → byte p (length p - 1) ≡ byte p' (length p - 1)
  pub payloads : headers_end p < length p → AlikePayload (payload p) (payload p')

-- ---- laws

same_if : (t : Bool) {x x' : ℕ} → (t ≡ true → x ≡ x') → cond t x 0 ≡ cond t x' 0
same_if true e = e refl
same_if false e = refl

module _ {b b' : List ℕ} (a : AlikePayload b b') where
  same_interval : interval b ≡ interval b'
  unfolding interval
  same_interval = rw (← a.kind) (same_if (has_restart b) a.interval)

  same_restart_end : restart_end b ≡ restart_end b'
  unfolding restart_end
  same_restart_end = rw a.kind

  same_header : has_table_header b ≡ has_table_header b'
  unfolding has_table_header
  same_header = rw (a.offset, a.q)

  same_tables_length : tables_length b ≡ tables_length b'
  unfolding tables_length
  same_tables_length = rw (← same_header, ← same_restart_end) (same_if (has_table_header b) a.length)

  same_tables_at : tables_at b ≡ tables_at b'
  unfolding tables_at
  same_tables_at = rw (same_header, same_restart_end)

  same_scan_at : scan_at b ≡ scan_at b'
  unfolding scan_at
  same_scan_at = rw (same_tables_at, same_tables_length)

  same_precision : has_table_header b ≡ true → precision b ≡ precision b'
  unfolding precision
  same_precision e = rw (← same_restart_end) (a.precision e)

  same_tables : tables b ≡ tables b'
  same_tables = rw (← same_tables_length, ← same_tables_at) a.tables

  same_rule : table_rule_broken b ≡ table_rule_broken b'
  unfolding table_rule_broken
  same_rule =
      split (has_table_header b)
      (λ e. cc (same_precision e, same_header, same_tables_length, same_tables))
      (λ e. rule_without b e ∙ sym (rule_without b' (sym same_header ∙ e)))

  same_jpeg_checks : length b ≡ length b' → jpeg_checks b ≡ jpeg_checks b'
  same_jpeg_checks long = cc (same_interval, same_restart_end, same_scan_at, same_rule)

module _ {p p' : List ℕ} (a : AlikeHeaders p p') where
  pub same_headers_end : headers_end p ≡ headers_end p'
  unfolding headers_end
  same_headers_end = rw (← a.first) (ap (λ (n : ℕ). csrc_end p + n) (same_if (eqb (fixed p).extension 1) (λ e. ap (λ (n : ℕ). 4 + 4 * n) (a.words (eqb-true (fixed p).extension 1 e)))))

  pub same_dropped : ((fixed p).padding ≡ 1 → byte p (length p - 1) ≡ byte p' (length p - 1)) → dropped p ≡ dropped p'
  unfolding dropped
  same_dropped same = rw (← a.first, ← a.long) (same_if (eqb (fixed p).padding 1) (λ e. same (eqb-true (fixed p).padding 1 e)))

  module _ (same : dropped p ≡ dropped p') where
    pub same_payload_length : payload_length p ≡ payload_length p'
    unfolding payload_length
    same_payload_length = cc same_headers_end

    same_length : length (payload p) ≡ length (payload p')
    unfolding payload
    same_length = simp (length-take, length-drop) (cc (same_headers_end, same_payload_length))

    same_broken : padding_broken p ≡ padding_broken p'
    unfolding padding_broken
    same_broken = cc same_headers_end

    module _ (b : AlikePayload (payload p) (payload p')) where
      same_checks : (source : ℕ) → checks source p ≡ checks source p'
      same_checks source = cc (same_headers_end, same_broken, same_jpeg_checks b same_length)

      same_said : said p ≡ said p'
      unfolding said
      same_said = cc (same_headers_end, same_length, same_interval b, same_tables_at b, same_tables_length b, same_scan_at b)

something_behind : (source : ℕ) {p p' : List ℕ} → Alike p p' → headers_end p < length p → reading source p ≡ reading source p'
unfolding reading
something_behind source a some =
    let same = same_dropped a.headers (a.padding some) in
    cc (same_checks a.headers same (a.payloads some) source, same_said a.headers same (a.payloads some))

-- With nothing behind the RTP headers the payload is empty, so the eighth check fails. The sixth, the seventh and the eighth have one
-- reply, so it does not matter which of them answers, and the first five go by the fixed header alone.
payload_empty : (p : List ℕ) → length p ≤ headers_end p → length (payload p) ≡ 0
unfolding payload
payload_empty p h = simp (length-take, length-drop) (omega arith)

refused_at : (n : Refusal) (s t : Bool) (left : List Check) → judged (n when s ∷ n when t ∷ n when true ∷ left) ≡ Err n
unfolding judged
refused_at n true t left = refl
refused_at n false true left = refl
refused_at n false false left = refl

refused_alike : (front left left' : List Check) {n : Refusal} (s s' : Packet) → judged left ≡ Err n → judged left' ≡ Err n → answered (judged (front ++ left)) s ≡ answered (judged (front ++ left')) s'
unfolding judged
refused_alike [] left left' s s' e f = rw (e, f)
refused_alike ((m when true) ∷ front) left left' s s' e f = refl
refused_alike ((m when false) ∷ front) left left' s s' e f = refused_alike front left left' s s' e f

module _ (source : ℕ) where
  refused_short : (p : List ℕ) → length p ≤ headers_end p → judged (drop 5 (checks source p)) ≡ Err Refusal.TooShort
  refused_short p none = rw (lt-ltb (length (payload p)) main_end (omega (arith, payload_empty p none))) (refused_at Refusal.TooShort (ltb (length p) (headers_end p)) (padding_broken p) _)

  nothing_behind : {p p' : List ℕ} → AlikeHeaders p p' → length p ≤ headers_end p → reading source p ≡ reading source p'
  unfolding reading
  nothing_behind {p} {p'} a none =
      let front : take 5 (checks source p) ≡ take 5 (checks source p') = cc in
      refused_alike (take 5 (checks source p)) (drop 5 (checks source p)) (drop 5 (checks source p')) (said p) (said p') (refused_short p none) (refused_short p' (omega (arith, same_headers_end a)))
      ∙ ap (λ (l : List Check). answered (judged (l ++ drop 5 (checks source p'))) (said p')) front

-- The law: packets that are alike at the named places are answered alike.
pub named_places : (source : ℕ) (p p' : List ℕ) → Alike p p' → reading source p ≡ reading source p'
named_places source p p' a =
    split (ltb (headers_end p) (length p))
    (λ some. something_behind source a (ltb-true (headers_end p) (length p) some))
    (λ none. nothing_behind source a.headers (ltb-false (headers_end p) (length p) none))
