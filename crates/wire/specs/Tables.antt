-- The table header and the tables, in the first packet of a picture whose Q has them in band: RFC 2435 section 3.1.8. Assumes nothing.
use Rattle.std.specs.Prelude.{ℕ, ◌+◌, ◌%◌, ◌≤◌, Bool, not, ◌&&◌, ◌||◌, List, ◌⊎◌, ◌≡◌, eqb, length, take, drop}
use Rattle.std.proofs.Math.Bool.{true, false, cond}
use Rattle.std.proofs.Common.{inl, inr, sym, ◌∙◌, arith}
use Rattle.std.proofs.Math.Logic.{⊎_elim}
use borrow.Author.Tests.{eq-eqb, ne_eqb, eqb-true, eqb-false}
use Rattle.laws.specs.Any.{any}
use Rattle.laws.specs.Truth.{split, never_both, and_false, and_truth, or_false}
use Rattle.wire.specs.Field.{byte, field}
use Rattle.wire.specs.Main.{main}
use Rattle.wire.specs.Restart.{restart_end, restart_end_small}
use Rattle.wire.specs.TableSource.{table_source, is_in_band, is_always_brought, always_in_band}

--      0                   1                   2                   3
--      0 1 2 3 4 5 6 7 8 9 0 1 2 3 4 5 6 7 8 9 0 1 2 3 4 5 6 7 8 9 0 1
--     +---------------+---------------+-------------------------------+
--     |     zero      |   precision   |            length             |
--     +---------------+---------------+-------------------------------+
--     |                    `length` bytes of tables                   |
abbrev pub table_header_due : ℕ → ℕ → Bool
table_header_due offset q = eqb offset 0 && is_in_band (table_source q)

unfoldable pub has_table_header : List ℕ → Bool
has_table_header b = table_header_due (main b).offset (main b).q

abbrev pub always_brought : List ℕ → Bool
always_brought b = is_always_brought (table_source (main b).q)

unfoldable pub tables_length : List ℕ → ℕ
tables_length b = cond (has_table_header b) (field b (restart_end b + 2) 2) 0

-- the two low bits of the precision; the others are ignored
unfoldable pub precision : List ℕ → ℕ
precision b = byte b (restart_end b + 1) % 4

unfoldable pub tables_at : List ℕ → ℕ
tables_at b = restart_end b + cond (has_table_header b) 4 0

-- What is behind the tables is scan data.
unfoldable pub scan_at : List ℕ → ℕ
scan_at b = tables_at b + tables_length b

abbrev pub tables : List ℕ → List ℕ
tables b = take (tables_length b) (drop (tables_at b) b)

abbrev pub is_zero : ℕ → Bool
is_zero v = eqb v 0

-- The table rule: 8-bit entries, none of them 0; a length of 0 or 128; not 0 where each picture brings its tables.
unfoldable pub table_rule_broken : List ℕ → Bool
table_rule_broken b =
    has_table_header b
    && (not (eqb (precision b) 0)
    || not (eqb (tables_length b) 0 || eqb (tables_length b) 128)
    || always_brought b && eqb (tables_length b) 0
    || any is_zero (tables b))

-- Tables that may be sent: 128 bytes, none of them 0.
unfoldable pub are_full : List ℕ → Bool
are_full t = eqb (length t) 128 && not (any is_zero t)

-- The outcome of `are_full`.
abbrev pub TellsFull : List ℕ → Bool → Type 0
TellsFull t b = b ≡ are_full t

-- ---- laws

pub full_of_128 : (t : List ℕ) → length t ≡ 128 → are_full t ≡ not (any is_zero t)
unfolding are_full
full_of_128 t long = rw (eq-eqb (length t) 128 long)

module _ (b : List ℕ) where
  pub tables_at_small : tables_at b ≤ 16
  unfolding tables_at
  tables_at_small = go (has_table_header b)
    where
      go : (t : Bool) → restart_end b + cond t 4 0 ≤ 16
      go true = omega (arith, restart_end_small b)
      go false = omega (arith, restart_end_small b)

  -- what the rule comes to: nothing without a table header, and with one by the precision and the length
  pub rule_without : has_table_header b ≡ false → table_rule_broken b ≡ false
  unfolding table_rule_broken
  rule_without e = rw e

  module _ (header : has_table_header b ≡ true) where
    pub rule_wide : (precision b ≡ 0 → ⊥) → table_rule_broken b ≡ true
    unfolding table_rule_broken
    rule_wide h = rw (header, ne_eqb (precision b) 0 h)

    module _ (bytes : precision b ≡ 0) where
      pub rule_none : tables_length b ≡ 0 → table_rule_broken b ≡ always_brought b
      unfolding table_rule_broken
      rule_none e = rw (header, eq-eqb (precision b) 0 bytes, e, and_truth (always_brought b), or_false (always_brought b))

      pub rule_full : tables_length b ≡ 128 → table_rule_broken b ≡ any is_zero (tables b)
      unfolding table_rule_broken
      rule_full e = rw (header, eq-eqb (precision b) 0 bytes, ne_eqb (tables_length b) 0 (λ z. omega arith), eq-eqb (tables_length b) 128 e, and_false (always_brought b))

      pub rule_other : (tables_length b ≡ 0 → ⊥) → (tables_length b ≡ 128 → ⊥) → table_rule_broken b ≡ true
      unfolding table_rule_broken
      rule_other h g = rw (header, eq-eqb (precision b) 0 bytes, ne_eqb (tables_length b) 0 h, ne_eqb (tables_length b) 128 g)

  length_without : has_table_header b ≡ false → tables_length b ≡ 0
  unfolding tables_length
  length_without e = rw e

  -- what is known of tables that keep the rule: none come, or 128 bytes, none of them 0
  pub record Come : Type 0 where
    pub header : has_table_header b ≡ true
    pub long : tables_length b ≡ 128
    pub no_zero : any is_zero (tables b) ≡ false

  pub none_or_come : table_rule_broken b ≡ false → (tables_length b ≡ 0) ⊎ Come
  none_or_come kept =
      split (has_table_header b)
      (λ header. split (eqb (precision b) 0)
      (λ narrow. by_length header (eqb-true (precision b) 0 narrow))
      (λ wide. absurd (never_both (rule_wide header (eqb-false (precision b) 0 wide)) kept)))
      (λ bare. inl (length_without bare))
    where
      by_length : has_table_header b ≡ true → precision b ≡ 0 → (tables_length b ≡ 0) ⊎ Come
      by_length header narrow =
          split (eqb (tables_length b) 0)
          (λ e. inl (eqb-true (tables_length b) 0 e))
          (λ some. split (eqb (tables_length b) 128)
          (λ full. inr (record { header = header; long = eqb-true (tables_length b) 128 full; no_zero = sym (rule_full header narrow (eqb-true (tables_length b) 128 full)) ∙ kept }))
          (λ other. absurd (never_both (rule_other header narrow (eqb-false (tables_length b) 0 some) (eqb-false (tables_length b) 128 other)) kept)))

  -- and they come with the first packet of each picture where they are always brought
  pub always_come : table_rule_broken b ≡ false → (main b).offset ≡ 0 → always_brought b ≡ true → Come
  unfolding has_table_header
  always_come kept first always = ⊎_elim (λ none. absurd (never none)) (λ come. come) (none_or_come kept)
    where
      header : has_table_header b ≡ true
      header = rw (eq-eqb (main b).offset 0 first) (always_in_band (table_source (main b).q) always)

      never : tables_length b ≡ 0 → ⊥
      never none =
          split (eqb (precision b) 0)
          (λ narrow. never_both (rule_none header (eqb-true (precision b) 0 narrow) none ∙ always) kept)
          (λ wide. never_both (rule_wide header (eqb-false (precision b) 0 wide)) kept)
