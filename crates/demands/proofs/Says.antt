-- What a receiver reads from packet k of a picture. Assumes nothing.
use Rattle.std.proofs.Common.{⊎_elim, sym, ◌∙◌, arith, length-take, get_or-take, get_or-drop, ap}
use Rattle.std.specs.Prelude.{ℕ, ◌<◌, Bool, false, cond, not, ◌&&◌, List, [], ◌≡◌, eqb, length, get_or, drop, true, refl}
use Rattle.fragments.specs.Fragments.{fragment_at, bytes_of}
use Rattle.fragments.specs.Tiles.{first_offset}
use Rattle.fragments.specs.declared.Fragment.{Fragment}
use Rattle.kept.specs.Kept.{is_keepable}
use Rattle.kept.specs.declared.Kept.{Kept}
use Rattle.laws.specs.Truth.{never_both}
use Rattle.laws.specs.Within.{is_within, is_over}
use Rattle.receiver.specs.FirstPacket.{brings, given_from, given}
use Rattle.sender.specs.Fit.{none_or_full}
use Rattle.sender.specs.Picture.{Picture}
use Rattle.sender.specs.ReadBack.{Sendable}
use Rattle.sender.specs.declared.Stamp.{Stamp}
use Rattle.tables.specs.Quantiser.{tables_of}
use Rattle.wire.specs.Readable.{filled_already}
use Rattle.wire.specs.Reading.{scan_in, filled_up, tables_in}
use Rattle.wire.specs.TableSource.{table_source, is_made, made_within, kept_or_brought_between, in_band_not_made}
use Rattle.wire.specs.declared.Packet.{Packet}
use Rattle.wire.specs.declared.TableSource.TheVariants.{Made, KeptOrBrought, AlwaysBrought, Reserved}
use Rattle.wire.specs.declared.TableSource.{TableSource}
use Rattle.demands.specs.Delivery.{Packets, brings_tables, HasTables, those_tables}
use Rattle.demands.specs.Provenance.{Brings}
use Rattle.demands.specs.Says.{Says}

-- ---- laws

module _ {s : Stamp} {p : Picture} (sendable : Sendable s p) where
  -- tables that it brings are 128 bytes, and its own
  brought : brings_tables p ≡ true → (length p.tables ≡ 128) × (those_tables p ≡ p.tables)
  brought e = ⊎_elim
      (λ none. absurd (never_both e (rw none.0)))
      (λ full. (full.1, ap (λ (b : Bool). cond b (tables_of p.header.q) p.tables) (sym (made_within p.header.q) ∙ in_band_not_made (table_source p.header.q) full.0)))
      (none_or_full (table_source p.header.q) p.tables sendable.tables)

  pub own_tables : brings_tables p ≡ true → those_tables p ≡ p.tables
  own_tables e = (brought e).1

  module _ (has : HasTables p) where
    -- where tables are not made, it brings them
    brings_else : is_made (table_source p.header.q) ≡ false → brings_tables p ≡ true
    brings_else e = ⊎_elim
        (λ range. absurd (never_both (is_within 1 99 p.header.q range.0 range.1) (sym (made_within p.header.q) ∙ e)))
        (λ own. own)
        has

    -- what its first packet gives are its tables, whatever is kept
    pub given_own : (k : Kept) (bytes : List ℕ) (said : Packet) → said.header.q ≡ p.header.q → brings said ≡ brings_tables p → (brings_tables p ≡ true → tables_in bytes said ≡ p.tables) → given k bytes said ≡ those_tables p
    unfolding given
    given_own k bytes said q b t = ap (λ (n : ℕ). given_from (table_source n) k bytes said) q ∙ go (table_source p.header.q) refl
      where
        made : is_made (table_source p.header.q) ≡ true → tables_of p.header.q ≡ those_tables p
        made e = rw (sym (made_within p.header.q) ∙ e)

        own : is_made (table_source p.header.q) ≡ false → tables_in bytes said ≡ those_tables p
        own e = t (brings_else e) ∙ sym (own_tables (brings_else e))

        go : (source : TableSource) → table_source p.header.q ≡ source → given_from source k bytes said ≡ those_tables p
        go Made e = ap tables_of q ∙ made (rw e)
        go KeptOrBrought e = rw (b, brings_else (rw e)) (own (rw e))
        go AlwaysBrought e = own (rw e)
        go Reserved e = own (rw e)

    -- and it is never bare
    pub brings_keepable : is_keepable p.header.q ≡ true → brings_tables p ≡ true
    brings_keepable e = brings_else (made_within p.header.q ∙ is_over 1 99 p.header.q (omega (arith, kept_or_brought_between p.header.q e)))

module _ {s : Stamp} {p : Picture} {cs : List Fragment} {packet : ℕ → List ℕ} (ps : Packets s p cs packet) (k : ℕ) (i : k < length cs) where
  -- what it brings for a place is the scan's byte
  pub brings_scan : (at v : ℕ) → Brings s.source (packet k) at v → v ≡ get_or p.scan at 0
  brings_scan at v b =
      let c = fragment_at cs k in
      let back = ps.read_back k i in
      let same : back.said ≡ b.said = cc (back.read, b.read) in
      let there : scan_in (packet k) b.said ≡ bytes_of p.scan c = rw same at back.scan in
      let begins : b.said.offset ≡ c.offset = rw same at back.offset in
      let inside : b.at < c.length = omega (arith, ap length there, b.in_its_data, length-take c.length (drop c.offset p.scan)) in
      sym b.byte
      ∙ rw (there, get_or-take c.length (drop c.offset p.scan) b.at 0 inside, get_or-drop c.offset p.scan b.at 0) (ap (λ (j : ℕ). get_or p.scan j 0) (omega (arith, begins, b.place)))

  pub says : Says s p cs k (packet k)
  says =
      let back = ps.read_back k i in
      record {
        said = back.said;
        read = back.read;
        covers = same_fields back.offset back.scan_length back.marker;
        time = back.time;
        header = back.header;
        scan = back.scan;
        first = rw back.offset first;
        brings = rw (back.length_of_tables, first) (length_due (eqb k 0));
        tables = λ e. back.tables ∙ rw first (due (eqb k 0) e);
      }
    where
      c : Fragment
      c = fragment_at cs k

      first : eqb c.offset 0 ≡ eqb k 0
      first = first_offset (length p.scan) cs k ps.tile i

      fragment : ℕ → ℕ → ℕ → Fragment
      fragment offset length marker = record { offset = offset; length = length; marker = marker }

      same_fields : {a b d : ℕ} → a ≡ c.offset → b ≡ c.length → d ≡ c.marker → fragment a b d ≡ fragment c.offset c.length c.marker
      same_fields e f g = cc

      length_due : (first : Bool) → not (eqb (length (cond first p.tables [])) 0) ≡ (first && brings_tables p)
      length_due true = refl
      length_due false = refl

      due : (first : Bool) → (first && brings_tables p) ≡ true → filled_up (cond first p.tables []) ≡ p.tables
      due true e = filled_already p.tables (brought ps.sendable e).0
      due false e = absurd (never_both refl (sym e))
