-- Where a picture's scan is cut, for a packet size. Assumes nothing.
use Rattle.std.specs.Prelude.{◌≡◌, ℕ, zero, suc, ◌+◌, ◌-◌, ◌<◌, ◌≤◌, cond, List, [], ◌∷◌, length, nat_le, refl}
use Rattle.std.proofs.Common.{zero-add, arith, leb-true, leb-false}
use Rattle.fragments.specs.Fragments.{fragment_at}
use Rattle.fragments.specs.Tiles.{Tiles, laid, sum, laid_tiles}
use Rattle.fragments.specs.declared.Fragment.{Fragment}
use Rattle.laws.specs.Each.{Each}
use Rattle.laws.specs.Truth.{split}
use Rattle.wire.specs.Rtp.{fixed_end}
use Rattle.sender.specs.Fit.{Fit, few_tables}
use Rattle.sender.specs.Packet.{jpeg_headers, restart_small, tables_small, length_headers, not_by_intervals}
use Rattle.sender.specs.Picture.{Picture}

-- The scan bytes that a packet holds at an offset, beside the headers that are due there.
unfoldable pub capacity : ℕ → Picture → ℕ → ℕ
capacity size p offset = size - (fixed_end + length (jpeg_headers p.header p.tables offset))

-- Each packet is filled, and the last takes what remains: how many scan bytes go into each, from an offset on, where so many bytes
-- remain and a packet holds so many at each offset. The first number only bounds the recursion: it is no smaller than what remains.
abbrev pub shares : ℕ → (ℕ → ℕ) → ℕ → ℕ → List ℕ
shares zero holds offset remains = []
shares (suc n) holds offset remains =
    cond (nat_le remains (holds offset))
    (remains ∷ [])
    (holds offset ∷ shares n holds (offset + holds offset) (remains - holds offset))

unfoldable pub cuts : ℕ → Picture → List Fragment
cuts size p = laid 0 (shares (length p.scan) (capacity size p) 0 (length p.scan))

-- ---- laws

module _ (holds : ℕ → ℕ) (some : (offset : ℕ) → 1 ≤ holds offset) where
  shares_some : (n offset remains : ℕ) → 1 ≤ remains → remains ≤ n → Each (λ (m : ℕ). 1 ≤ m) (shares n holds offset remains)
  shares_some zero offset remains h g = tt
  shares_some (suc n) offset remains h g =
      split (nat_le remains (holds offset))
      (λ e. rw e (h, tt))
      (λ e. let over = leb-false remains (holds offset) e in rw e (some offset, shares_some n (offset + holds offset) (remains - holds offset) (omega arith) (omega (arith, some offset))))

  shares_sum : (n offset remains : ℕ) → 1 ≤ remains → remains ≤ n → sum (shares n holds offset remains) ≡ remains
  shares_sum zero offset remains h g = absurd (omega arith)
  shares_sum (suc n) offset remains h g =
      split (nat_le remains (holds offset))
      (λ e. rw e (omega arith))
      (λ e. let over = leb-false remains (holds offset) e in rw e (omega (arith, shares_sum n (offset + holds offset) (remains - holds offset) (omega arith) (omega (arith, some offset)))))

-- no fragment is more than its packet holds, and any but the last is as much
module _ (holds : ℕ → ℕ) where
  pub record Filled (cs : List Fragment) (k : ℕ) : Type 0 where
    pub most : (fragment_at cs k).length ≤ holds (fragment_at cs k).offset
    pub all : suc k < length cs → (fragment_at cs k).length ≡ holds (fragment_at cs k).offset

  shares_filled : (n offset remains k : ℕ) → k < length (laid offset (shares n holds offset remains)) → Filled (laid offset (shares n holds offset remains)) k
  shares_filled zero offset remains k h = absurd (omega arith)
  shares_filled (suc n) offset remains zero h =
      split (nat_le remains (holds offset))
      (λ e. rw e (record { most = leb-true remains (holds offset) e; all = λ more. absurd (omega arith) }))
      (λ e. rw e (record { most = omega arith; all = λ more. refl }))
  shares_filled (suc n) offset remains (suc k) h =
      split (nat_le remains (holds offset))
      (λ e. absurd (let g = rw e at h in omega arith))
      (λ e.
      let g = rw e at h in
      let f = shares_filled n (offset + holds offset) (remains - holds offset) k (omega arith) in
      rw e (record { most = f.most; all = λ more. f.all (omega arith) }))

module _ {p : Picture} {size : ℕ} (fit : Fit p size) where
  pub some_capacity : (offset : ℕ) → 1 ≤ capacity size p offset
  unfolding capacity
  some_capacity offset = omega (arith, fit.packet_size, length_headers p.header p.tables offset, restart_small p.header not_by_intervals, tables_small p.header p.tables offset, few_tables fit)

  pub cuts_tile : Tiles 0 (cuts size p) (length p.scan)
  unfolding cuts
  cuts_tile =
      let n = length p.scan in
      let parts = shares n (capacity size p) 0 n in
      let t = laid_tiles 0 parts (shares_some (capacity size p) some_capacity n 0 n fit.scan.0 (omega arith)) in
      rw (zero-add (sum parts), shares_sum (capacity size p) some_capacity n 0 n fit.scan.0 (omega arith)) at t

  pub cuts_filled : (k : ℕ) → k < length (cuts size p) → Filled (capacity size p) (cuts size p) k
  unfolding cuts
  cuts_filled k h = shares_filled (capacity size p) (length p.scan) 0 (length p.scan) k h
