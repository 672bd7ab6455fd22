-- The limits of a picture that is sent, its number of packets aside. Assumes nothing.
use Rattle.std.specs.Prelude.{◌≡◌, ℕ, ◌≤◌, Bool, true, false, not, ◌||◌, ◌⊎◌, List, [], ◌∷◌, length, ◌==◌, refl}
use Rattle.std.proofs.Common.{inl, inr, ⊎_elim, arith, eqb-true}
use Rattle.std.proofs.lemmas.Bool.{not-true, not-false}
use Rattle.laws.specs.Any.{any}
use Rattle.laws.specs.Truth.{split, never_both, and_true}
use Rattle.laws.specs.Within.{within, Between, between}
use Rattle.replies.specs.Checks.{Check, judged, ◌when◌, all_hold}
use Rattle.replies.specs.declared.Refusal.TheVariants as Refusal
use Rattle.replies.specs.Checks.{Passed}
use Rattle.wire.specs.Lawful.{Lawful, is_lawful, lawful}
use Rattle.wire.specs.TableSource.{table_source, is_in_band, is_always_brought}
use Rattle.wire.specs.Tables.{is_zero, are_full}
use Rattle.wire.specs.declared.TableSource.{TableSource}
use Rattle.wire.specs.declared.TableSource.TheVariants.{Made, KeptOrBrought, AlwaysBrought, Reserved}
use Rattle.sender.specs.Picture.{Picture}

-- The tables that a picture may have, by where they come from: none for Q 1 to 99, none or 128 bytes for 128 to 254, 128 for 255.
abbrev pub tables_fit : TableSource → List ℕ → Bool
tables_fit Made t = length t == 0
tables_fit KeptOrBrought t = length t == 0 || are_full t
tables_fit AlwaysBrought t = are_full t
tables_fit Reserved t = false

-- 40, 41, 42, 43
abbrev pub picture_checks : Picture → ℕ → List Check
picture_checks p size =
    Refusal.Parameters when not (is_lawful p.header)
    ∷ Refusal.ScanLength when not (within 1 65536 (length p.scan))
    ∷ Refusal.PacketSize when not (within 192 1472 size)
    ∷ Refusal.SentTables when not (tables_fit (table_source p.header.q) p.tables)
    ∷ []

-- What these checks leave of a picture and a packet size.
pub record Fit (p : Picture) (size : ℕ) : Type 0 where
  pub header : Lawful p.header
  pub scan : Between 1 65536 (length p.scan)
  pub packet_size : Between 192 1472 size
  pub tables : tables_fit (table_source p.header.q) p.tables ≡ true

-- ---- laws

pub fits : (p : Picture) (size : ℕ) → judged (picture_checks p size) ≡ Passed → Fit p size
fits p size e =
    let t = all_hold (picture_checks p size) e in
    record {
      header = lawful p.header (not-false (is_lawful p.header) t.0);
      scan = between 1 65536 (length p.scan) (not-false (within 1 65536 (length p.scan)) t.1.0);
      packet_size = between 192 1472 size (not-false (within 192 1472 size) t.1.1.0);
      tables = not-false (tables_fit (table_source p.header.q) p.tables) t.1.1.1.0;
    }

full : (t : List ℕ) → are_full t ≡ true → (length t ≡ 128) × (any is_zero t ≡ false)
unfolding are_full
full t e = let both = and_true (length t == 128) (not (any is_zero t)) e in (eqb-true (length t) 128 both.0, not-true (any is_zero t) both.1)

-- tables that fit: none, where the picture need not bring them, or 128 bytes in band, none of them 0
pub none_or_full : (s : TableSource) (t : List ℕ) → tables_fit s t ≡ true → ((length t ≡ 0) × (is_always_brought s ≡ false)) ⊎ ((is_in_band s ≡ true) × (length t ≡ 128) × (any is_zero t ≡ false))
none_or_full Made t e = inl (eqb-true (length t) 0 e, refl)
none_or_full KeptOrBrought t e = split (length t == 0) (λ none. inl (eqb-true (length t) 0 none, refl)) (λ some. let f = full t (rw some at e) in inr (refl, f.0, f.1))
none_or_full AlwaysBrought t e = let f = full t e in inr (refl, f.0, f.1)
none_or_full Reserved t e = absurd (never_both e refl)

pub few_tables : {p : Picture} {size : ℕ} → Fit p size → length p.tables ≤ 128
few_tables {p} {size} fit = ⊎_elim (λ none. omega arith) (λ full. omega arith) (none_or_full (table_source p.header.q) p.tables fit.tables)
