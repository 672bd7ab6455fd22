-- Fragments that tile a scan, however it is cut. Assumes nothing.
use Rattle.std.specs.Prelude.{ℕ, zero, suc, ◌+◌, ◌≤◌, ◌<◌, List, [], ◌∷◌, ◌≡◌, refl, eqb, length, drop}
use Rattle.std.proofs.Common.{sym, ◌∙◌, add-zero, add_assoc, arith, eq-eqb, ne_eqb}
use Rattle.std.proofs.Math.Dec.{eqb-suc-zero}
use Rattle.laws.specs.Each.{Each}
use Rattle.fragments.specs.Fragments.{stop, fragment_at}
use Rattle.fragments.specs.declared.Fragment.{Fragment}

-- the marker of a fragment with these behind it: 1 on the last
abbrev pub marker_before : {A : Type 0} → List A → ℕ
marker_before [] = 1
marker_before (x ∷ l) = 0

-- From `start` to `end` with no gap: each begins where the last ended, is of 1 byte or more, and has the marker if it is the last.
abbrev pub Tiles : ℕ → List Fragment → ℕ → Type 0
Tiles start [] end = start ≡ end
Tiles start (c ∷ cs) end = (c.offset ≡ start) × (1 ≤ c.length) × (c.marker ≡ marker_before cs) × Tiles (stop c) cs end

-- Fragments of these lengths, one after the other from an offset on, the last with the marker.
abbrev pub laid : ℕ → List ℕ → List Fragment
laid offset [] = []
laid offset (n ∷ lengths) = record { offset = offset; length = n; marker = marker_before lengths } ∷ laid (offset + n) lengths

abbrev pub sum : List ℕ → ℕ
sum [] = 0
sum (n ∷ lengths) = n + sum lengths

-- ---- laws

last_laid : (offset : ℕ) (lengths : List ℕ) → marker_before lengths ≡ marker_before (laid offset lengths)
last_laid offset [] = refl
last_laid offset (n ∷ lengths) = refl

pub laid_tiles : (offset : ℕ) (lengths : List ℕ) → Each (λ (n : ℕ). 1 ≤ n) lengths → Tiles offset (laid offset lengths) (offset + sum lengths)
laid_tiles offset [] some = sym (add-zero offset)
laid_tiles offset (n ∷ lengths) some = (refl, some.0, last_laid (offset + n) lengths, rw (add_assoc offset n (sum lengths)) at (laid_tiles (offset + n) lengths some.1))

-- what is known of one of them
pub record Inside (start end : ℕ) (c : Fragment) : Type 0 where
  pub from : start ≤ c.offset
  pub some : 1 ≤ c.length
  pub to : stop c ≤ end
  pub marker : c.marker ≤ 1

pub marker_small : (cs : List Fragment) → marker_before cs ≤ 1
marker_small [] = omega arith
marker_small (c ∷ cs) = omega arith

tiles_forward : (start : ℕ) (cs : List Fragment) (end : ℕ) → Tiles start cs end → start ≤ end
tiles_forward start [] end t = omega arith
tiles_forward start (c ∷ cs) end t = omega (arith, tiles_forward (stop c) cs end t.3)

pub tiles_inside : (start : ℕ) (cs : List Fragment) (end k : ℕ) → Tiles start cs end → k < length cs → Inside start end (fragment_at cs k)
tiles_inside start [] end k t h = absurd (omega arith)
tiles_inside start (c ∷ cs) end zero t h = record {
  from = omega arith;
  some = t.1;
  to = tiles_forward (stop c) cs end t.3;
  marker = omega (arith, marker_small cs);
}
tiles_inside start (c ∷ cs) end (suc k) t h =
    let i = tiles_inside (stop c) cs end k t.3 (omega arith) in
    record { from = omega (arith, i.from); some = i.some; to = i.to; marker = i.marker }

-- the first alone is at offset 0, where they tile from there
pub first_offset : (end : ℕ) (cs : List Fragment) (k : ℕ) → Tiles 0 cs end → k < length cs → eqb (fragment_at cs k).offset 0 ≡ eqb k 0
first_offset end [] k t i = absurd (omega arith)
first_offset end (c ∷ cs) zero t i = eq-eqb c.offset 0 t.0
first_offset end (c ∷ cs) (suc k) t i = ne_eqb (fragment_at cs k).offset 0 (λ z. omega (arith, t, (tiles_inside (stop c) cs end k t.3 (omega arith)).from)) ∙ sym (eqb-suc-zero k)

-- the marker is on the last alone, behind which nothing comes
pub tiles_marker : (start : ℕ) (cs : List Fragment) (end k : ℕ) → Tiles start cs end → k < length cs → (fragment_at cs k).marker ≡ marker_before (drop (suc k) cs)
tiles_marker start [] end k t h = absurd (omega arith)
tiles_marker start (c ∷ cs) end zero t h = t.2
tiles_marker start (c ∷ cs) end (suc k) t h = tiles_marker (stop c) cs end k t.3 (omega arith)
