-- One byte changed, at a place that the reader does not go by: its answer stays. Assumes nothing.
use Prim.Native.Nat.{ℕ, zero, suc, ◌+◌, ◌-◌, ◌%◌, ◌≤◌, ◌<◌}
use Rattle.std.specs.Prelude.{true, List, [], ◌∷◌, ◌≡◌, ltb, take, drop, set}
use Rattle.std.proofs.Math.Path.{refl}
use Rattle.std.proofs.Common.{sym, ap, arith, eq-eqb, ltb-true, ltb-false, length-set, get_or-set_other, drop-set-lt}
use Rattle.std.proofs.Math.ListN.{length}
use Rattle.std.proofs.Math.Seq.{drop-set-add}
use Rattle.std.proofs.lemmas.List.{take-set-le}
use Rattle.laws.specs.Truth.{split}
use Rattle.wire.specs.Field.{byte, field}
use Rattle.wire.specs.Main.{main_end}
use Rattle.wire.specs.NamedPlaces.{AlikeHeaders, AlikePayload, same_headers_end, same_payload_length, same_dropped, named_places}
use Rattle.wire.specs.Reading.{reading}
use Rattle.wire.specs.Restart.{has_restart, restart_end}
use Rattle.wire.specs.Rtp.{fixed, csrc_end, headers_end, dropped, payload, payload_length}
use Rattle.wire.specs.Tables.{has_table_header, precision, tables_length, tables_at, scan_at}

-- A place that is none of n places from another on.
abbrev pub Outside : ℕ → ℕ → ℕ → Type 0
Outside at n i = (k : ℕ) → k < n → at + k ≡ i → ⊥

-- A place that is none of those that the reader goes by in the RTP headers and the padding.
pub record Unnamed (p : List ℕ) (i : ℕ) : Type 0 where
  pub first : 2 ≤ i
  pub time : Outside 4 4 i
  pub source : Outside 8 4 i
  pub words : (fixed p).extension ≡ 1 → Outside (csrc_end p + 2) 2 i
  pub count : headers_end p < length p → (fixed p).padding ≡ 1 → i + 1 ≡ length p → ⊥

-- A place that is none of those that the reader goes by in the payload, or the precision with the same two low bits.
pub record UnnamedPayload (b : List ℕ) (j v : ℕ) : Type 0 where
  pub main : main_end ≤ j
  pub interval : has_restart b ≡ true → Outside main_end 2 j
  pub low_bits : has_table_header b ≡ true → restart_end b + 1 ≡ j → v % 4 ≡ precision b
  pub length : has_table_header b ≡ true → Outside (restart_end b + 2) 2 j
  pub tables : Outside (tables_at b) (tables_length b) j

-- ---- laws

module _ (l : List ℕ) (i v : ℕ) where
  byte_set : (at : ℕ) → (at ≡ i → ⊥) → byte l at ≡ byte (set l i v) at
  byte_set at h = sym (get_or-set_other l i at v 0 h)

  field_set : (at n : ℕ) → Outside at n i → field l at n ≡ field (set l i v) at n
  unfolding field
  field_set at zero h = refl
  field_set at (suc n) h = rw (← field_set at n (λ k g. h k (omega arith)), ← byte_set (at + n) (h n (omega arith)))

  part_set : (at n : ℕ) → Outside at n i → take n (drop at l) ≡ take n (drop at (set l i v))
  part_set at n h =
      split (ltb i at)
      (λ e. ap (take n) (sym (drop-set-lt at l i v (ltb-true i at e))))
      (λ e. behind (i - at) (omega (arith, ltb-false i at e)))
    where
      behind : (j : ℕ) → i ≡ at + j → take n (drop at l) ≡ take n (drop at (set l i v))
      behind j e = rw (e, drop-set-add at l j v, take-set-le n (drop at l) j v past)
        where
          past : n ≤ j
          past = split (ltb j n) (λ t. absurd (h j (ltb-true j n t) (sym e))) (λ t. ltb-false j n t)

low_bits_set : (l : List ℕ) (i v at : ℕ) → (at ≡ i → v % 4 ≡ byte l at % 4) → byte l at % 4 ≡ byte (set l i v) at % 4
low_bits_set [] i v at h = refl
low_bits_set (x ∷ l) zero v zero h = sym (h refl)
low_bits_set (x ∷ l) zero v (suc at) h = refl
low_bits_set (x ∷ l) (suc i) v zero h = refl
low_bits_set (x ∷ l) (suc i) v (suc at) h = low_bits_set l i v at (λ e. h (ap suc e))

take_set : (n : ℕ) (l : List ℕ) (j v : ℕ) → take n (set l j v) ≡ set (take n l) j v
take_set zero l j v = refl
take_set (suc n) [] j v = refl
take_set (suc n) (x ∷ l) zero v = refl
take_set (suc n) (x ∷ l) (suc j) v = ap (λ (r : List ℕ). x ∷ r) (take_set n l j v)

module _ (p : List ℕ) (i v : ℕ) (u : Unnamed p i) where
  alike_headers : AlikeHeaders p (set p i v)
  alike_headers = record {
    long = sym (length-set p i v);
    first = byte_set p i v 0 (omega (arith, u.first));
    second = byte_set p i v 1 (omega (arith, u.first));
    time = field_set p i v 4 4 u.time;
    source = field_set p i v 8 4 u.source;
    words = λ e. field_set p i v (csrc_end p + 2) 2 (u.words e);
  }

  same_count : headers_end p < length p → (fixed p).padding ≡ 1 → byte p (length p - 1) ≡ byte (set p i v) (length p - 1)
  same_count room e = byte_set p i v (length p - 1) (λ last. u.count room e (omega arith))

  set_payload : headers_end p < length p → payload (set p i v) ≡ take (payload_length p) (drop (headers_end p) (set p i v))
  unfolding payload
  set_payload room = rw (← same_headers_end alike_headers, ← same_payload_length alike_headers (same_dropped alike_headers (same_count room)))

alike_payload : (b : List ℕ) (j v : ℕ) → UnnamedPayload b j v → AlikePayload b (set b j v)
unfolding precision
alike_payload b j v u = record {
  specific = byte_set b j v 0 (omega (arith, u.main));
  offset = field_set b j v 1 3 (omega (arith, u.main));
  kind = byte_set b j v 4 (omega (arith, u.main));
  q = byte_set b j v 5 (omega (arith, u.main));
  width = byte_set b j v 6 (omega (arith, u.main));
  height = byte_set b j v 7 (omega (arith, u.main));
  interval = λ e. field_set b j v main_end 2 (u.interval e);
  precision = λ e. low_bits_set b j v (restart_end b + 1) (u.low_bits e);
  length = λ e. field_set b j v (restart_end b + 2) 2 (u.length e);
  tables = part_set b j v (tables_at b) (tables_length b) u.tables;
}

alike_self : (b : List ℕ) → AlikePayload b b
alike_self b = record { specific = refl; offset = refl; kind = refl; q = refl; width = refl; height = refl; interval = λ e. refl; precision = λ e. refl; length = λ e. refl; tables = refl }

module _ (p : List ℕ) where
  words_inside : (fixed p).extension ≡ 1 → csrc_end p + 4 ≤ headers_end p
  unfolding headers_end
  words_inside e = rw (eq-eqb (fixed p).extension 1 e) (omega arith)

  unnamed_behind : (i : ℕ) → headers_end p ≤ i → ((fixed p).padding ≡ 1 → i + 1 < length p) → Unnamed p i
  unfolding headers_end
  unnamed_behind i behind count = record {
    first = omega arith;
    time = omega arith;
    source = omega arith;
    words = λ e k h l. omega (arith, words_inside e);
    count = λ room e l. omega (arith, count e);
  }

module _ (b : List ℕ) where
  restart_end_with : has_restart b ≡ true → restart_end b ≡ 12
  unfolding restart_end
  restart_end_with e = rw e

  tables_at_with : has_table_header b ≡ true → tables_at b ≡ restart_end b + 4
  unfolding tables_at
  tables_at_with e = rw e

  -- behind the restart header
  unnamed_from : (j v : ℕ) → restart_end b ≤ j → (has_table_header b ≡ true → restart_end b + 1 ≡ j → v % 4 ≡ precision b) → (has_table_header b ≡ true → Outside (restart_end b + 2) 2 j) → Outside (tables_at b) (tables_length b) j → UnnamedPayload b j v
  unfolding restart_end
  unnamed_from j v behind low long apart = record {
    main = omega arith;
    interval = λ e k h l. omega (arith, restart_end_with e);
    low_bits = low;
    length = long;
    tables = apart;
  }

module _ (source : ℕ) (p : List ℕ) where
  ignored : (i v : ℕ) → Unnamed p i → (headers_end p < length p → AlikePayload (payload p) (payload (set p i v))) → reading source (set p i v) ≡ reading source p
  ignored i v u b = sym (named_places source p (set p i v) (record { headers = alike_headers p i v u; padding = same_count p i v u; payloads = b }))

  -- a byte of the headers or the padding, and one of the payload
  pub outside_ignored : (i v : ℕ) → Unnamed p i → Outside (headers_end p) (payload_length p) i → reading source (set p i v) ≡ reading source p
  unfolding payload
  outside_ignored i v u o = ignored i v u (λ room. rw (set_payload p i v u room, ← part_set p i v (headers_end p) (payload_length p) o) (alike_self (payload p)))

  pub inside_ignored : (j v : ℕ) → Unnamed p (headers_end p + j) → UnnamedPayload (payload p) j v → reading source (set p (headers_end p + j) v) ≡ reading source p
  unfolding payload
  inside_ignored j v u o = ignored (headers_end p + j) v u (λ room. rw (set_payload p (headers_end p + j) v u room, drop-set-add (headers_end p) p j v, take_set (payload_length p) (drop (headers_end p) p) j v) (alike_payload (payload p) j v o))

  -- the sequence number; the CSRCs; of the extension all but its length
  pub sequence_ignored : (i v : ℕ) → 2 ≤ i → i < 4 → reading source (set p i v) ≡ reading source p
  unfolding headers_end
  sequence_ignored i v a b = outside_ignored i v (omega arith) (omega arith)

  pub csrc_ignored : (i v : ℕ) → 12 ≤ i → i < csrc_end p → reading source (set p i v) ≡ reading source p
  unfolding headers_end
  csrc_ignored i v a b = outside_ignored i v (omega arith) (omega arith)

  pub extension_ignored : (i v : ℕ) → csrc_end p ≤ i → i < headers_end p → Outside (csrc_end p + 2) 2 i → reading source (set p i v) ≡ reading source p
  extension_ignored i v a b o = outside_ignored i v (record { first = omega arith; time = omega arith; source = omega arith; words = λ e. o; count = omega arith }) (omega arith)

  -- the padding, all but its last byte
  pub padding_ignored : (i v : ℕ) → headers_end p ≤ i → length p - dropped p ≤ i → i + 1 < length p → reading source (set p i v) ≡ reading source p
  unfolding payload_length
  padding_ignored i v a b c = outside_ignored i v (unnamed_behind p i a (λ e. c)) (omega arith)

  -- a byte of the payload that is not the last of a padded packet: F, L and count; the zero byte; the upper bits of the precision; the scan data
  module _ (j v : ℕ) (count : (fixed p).padding ≡ 1 → headers_end p + j + 1 < length p) where
    payload_ignored : UnnamedPayload (payload p) j v → reading source (set p (headers_end p + j) v) ≡ reading source p
    payload_ignored u = inside_ignored j v (unnamed_behind p (headers_end p + j) (omega arith) count) u

    pub restart_ignored : main_end + 2 ≤ j → j < restart_end (payload p) → reading source (set p (headers_end p + j) v) ≡ reading source p
    unfolding tables_at
    restart_ignored a b = payload_ignored (omega arith)

    pub zero_ignored : has_table_header (payload p) ≡ true → j ≡ restart_end (payload p) → reading source (set p (headers_end p + j) v) ≡ reading source p
    zero_ignored header a = payload_ignored (unnamed_from (payload p) j v (omega arith) (λ e. omega arith) (λ e. omega arith) (omega (arith, tables_at_with (payload p) header)))

    pub precision_ignored : has_table_header (payload p) ≡ true → j ≡ restart_end (payload p) + 1 → v % 4 ≡ precision (payload p) → reading source (set p (headers_end p + j) v) ≡ reading source p
    precision_ignored header a low = payload_ignored (unnamed_from (payload p) j v (omega arith) (λ e l. low) (λ e. omega arith) (omega (arith, tables_at_with (payload p) header)))

    pub scan_ignored : scan_at (payload p) ≤ j → reading source (set p (headers_end p + j) v) ≡ reading source p
    unfolding scan_at tables_at
    scan_ignored a = payload_ignored (unnamed_from (payload p) j v (omega arith) (λ e. omega (arith, tables_at_with (payload p) e)) (λ e. omega (arith, tables_at_with (payload p) e)) (omega arith))
