-- The cuts of a picture by arithmetic, as the code has them. Assumes nothing.
use Rattle.std.proofs.Common.{◌≡◌, ℕ, zero, suc, ◌+◌, ◌-◌, ◌*◌, ◌<◌, ◌≤◌, true, false, cond, ltb, leb, length, refl, ap, ◌∙◌, add-zero, add-suc, suc-mul, zero-add, zero-mul, add-one, arith, ltb-false, ltb-true, le-leb, leb-false, leb-true}
use native.Mathlib.Nat.{sub-zero}
use borrow.Author.Tests.{lt-leb}
use Rattle.fragments.specs.Fragments.{fragment_at}
use Rattle.fragments.specs.Tiles.{marker_before, laid}
use Rattle.fragments.specs.declared.Fragment.{Fragment}
use Rattle.laws.specs.Truth.{split}
use Rattle.sender.specs.Cuts.{capacity, shares, cuts}
use Rattle.sender.specs.Fit.{Fit, few_tables}
use Rattle.sender.specs.Packet.{restart_header, not_by_intervals, table_header, restart_small, tables_past, tables_small, length_headers}
use Rattle.sender.specs.Picture.{Picture}

-- a cut that begins at one place and goes up to the next, or to the end
abbrev pub cut_to : ℕ → ℕ → ℕ → Fragment
cut_to all from next = cond (leb all next) (record { offset = from; length = all - from; marker = 1 }) (record { offset = from; length = next - from; marker = 0 })

-- places that rise by what a packet holds at each
module _ (place holds : ℕ → ℕ) (all : ℕ) (rises : (j : ℕ) → place j < place (suc j)) (step : (j : ℕ) → holds (place j) ≡ place (suc j) - place j) where
  far : (i k : ℕ) → place i ≤ place (i + k)
  far i zero = rw (add-zero i) (omega arith)
  far i (suc k) = rw (add-suc i k) (omega (arith, far i k, rises (i + k)))

  module _ (i : ℕ) where
    last : all ≤ place (suc i) → leb (all - place i) (holds (place i)) ≡ true
    last h = rw (step i) (le-leb (all - place i) (place (suc i) - place i) (omega arith))

    not_last : place (suc i) < all → leb (all - place i) (holds (place i)) ≡ false
    not_last h = rw (step i) (lt-leb (all - place i) (place (suc i) - place i) (omega (arith, rises i)))

    next : place i + holds (place i) ≡ place (suc i)
    next = rw (step i) (omega (arith, rises i))

    left : all - place i - holds (place i) ≡ all - place (suc i)
    left = rw (step i) (omega (arith, rises i))

  more : (n offset remains : ℕ) → 1 ≤ n → marker_before (shares n holds offset remains) ≡ 0
  more zero offset remains h = absurd (omega arith)
  more (suc n) offset remains h = split (leb remains (holds offset)) (λ e. rw e) (λ e. rw e)

  shift : (i k : ℕ) → i + suc k ≡ suc i + k
  shift i k = omega arith

  reached : (n i k : ℕ) → k < length (laid (place i) (shares n holds (place i) (all - place i))) → place i < all → place (i + k) < all
  reached zero i k h b = absurd (omega arith)
  reached (suc n) i zero h b = rw (add-zero i) b
  reached (suc n) i (suc k) h b =
      split (leb all (place (suc i)))
      (λ e. absurd (let g = rw (last i (leb-true all (place (suc i)) e)) at h in omega arith))
      (λ e.
      let on = leb-false all (place (suc i)) e in
      let g = rw (not_last i on, next i, left i) at h in
      rw (shift i k) (reached n (suc i) k (omega arith) on))

  found : (n i k : ℕ) → place (i + k) < all → all - place i ≤ n → (k < length (laid (place i) (shares n holds (place i) (all - place i)))) × (fragment_at (laid (place i) (shares n holds (place i) (all - place i))) k ≡ cut_to all (place (i + k)) (place (suc (i + k))))
  found zero i k b fuel = absurd (omega (arith, far i k))
  found (suc n) i zero b fuel =
      split (leb all (place (suc i)))
      (λ e. rw (last i (leb-true all (place (suc i)) e), add-zero i, e) (omega arith, refl))
      (λ e.
      let on = leb-false all (place (suc i)) e in
      rw (not_last i on, add-zero i, e, next i, left i, more n (place (suc i)) (all - place (suc i)) (omega (arith, rises i)), step i) (omega arith, refl))
  found (suc n) i (suc k) b fuel =
      let b' = rw (shift i k) at b in
      split (leb all (place (suc i)))
      (λ e. absurd (omega (arith, leb-true all (place (suc i)) e, far (suc i) k)))
      (λ e.
      let t = found n (suc i) k b' (omega (arith, rises i)) in
      rw (not_last i (leb-false all (place (suc i)) e), next i, left i, shift i k) (omega arith, t.1))

-- where cut j begins
abbrev pub begin : ℕ → ℕ → ℕ → ℕ
begin rest taken j = j * rest - taken

-- what the packets of a picture hold: any but the first `rest`, of which the table header takes `taken` in the first
pub record Holds (size : ℕ) (p : Picture) (rest taken : ℕ) : Type 0 where
  pub behind : rest ≡ size - (20 + length (restart_header p.header not_by_intervals))
  pub first : taken ≡ length (table_header p.header p.tables 0)
  pub apart : taken < rest

pub holding : {p : Picture} {size rest taken : ℕ} → Fit p size → rest ≡ size - (20 + length (restart_header p.header not_by_intervals)) → taken ≡ length (table_header p.header p.tables 0) → Holds size p rest taken
holding {p} {size} {rest} {taken} fit behind first = record {
  behind = behind;
  first = first;
  apart = omega (arith, fit.packet_size, restart_small p.header not_by_intervals, tables_small p.header p.tables 0, few_tables fit);
}

-- the product in it, which arithmetic on sums does not see
pub place_next : (k rest : ℕ) → (k + 1) * rest ≡ k * rest + rest
place_next k rest = rw (add-one k) (suc-mul k rest)

module _ {size : ℕ} {p : Picture} {rest taken : ℕ} (holds : Holds size p rest taken) where
  front : begin rest taken 0 ≡ 0
  front = omega (arith, zero-mul rest)

  rises : (j : ℕ) → begin rest taken j < begin rest taken (suc j)
  rises j = omega (arith, suc-mul j rest, holds.apart)

  holds_first : capacity size p 0 ≡ rest - taken
  unfolding capacity
  holds_first = omega (arith, length_headers p.header p.tables 0, holds.behind, holds.first)

  holds_rest : (offset : ℕ) → (offset ≡ 0 → ⊥) → capacity size p offset ≡ rest
  unfolding capacity
  holds_rest offset n = omega (arith, length_headers p.header p.tables offset, ap length (tables_past p.header p.tables offset n), holds.behind)

  step : (j : ℕ) → capacity size p (begin rest taken j) ≡ begin rest taken (suc j) - begin rest taken j
  step zero = ap (capacity size p) front ∙ omega (arith, holds_first, suc-mul 0 rest, zero-mul rest)
  step (suc j) = omega (arith, holds_rest (begin rest taken (suc j)) (λ e. omega (arith, suc-mul j rest, holds.apart)), suc-mul j rest, suc-mul (suc j) rest, holds.apart)

  these : laid (begin rest taken 0) (shares (length p.scan) (capacity size p) (begin rest taken 0) (length p.scan - begin rest taken 0)) ≡ cuts size p
  unfolding cuts
  these = rw (front, sub-zero (length p.scan))

  module _ (k : ℕ) (some : 1 ≤ length p.scan) where
    pub reaches : k < length (cuts size p) → k * rest < taken + length p.scan
    reaches h =
        let all = length p.scan in
        let r = reached (begin rest taken) (capacity size p) all rises step all 0 k (rw these h) (omega (arith, front)) in
        let e = zero-add k in
        omega (arith, rw e at r)

    -- there is no cut k
    pub no_cut : taken + length p.scan ≤ k * rest → length (cuts size p) ≤ k
    no_cut h = split (ltb k (length (cuts size p))) (λ e. absurd (omega (arith, reaches (ltb-true k (length (cuts size p)) e)))) (λ e. ltb-false k (length (cuts size p)) e)

    -- cut k, from its place to the next
    pub cut_k : k * rest < taken + length p.scan → (k < length (cuts size p)) × (fragment_at (cuts size p) k ≡ cut_to (length p.scan) (begin rest taken k) (begin rest taken (k + 1)))
    cut_k h = rw (add-one k) (rw (these, zero-add k) at (found (begin rest taken) (capacity size p) (length p.scan) rises step (length p.scan) 0 k (rw (zero-add k) (omega arith)) (omega arith)))
