-- A scan area in which some fragments of a scan have been put. Assumes nothing.
use Rattle.std.proofs.Common.{sym, ap, ◌∙◌, arith, length-take-le, get_or-take, get_or-drop, ext_get_or}
use Rattle.std.specs.Prelude.{ℕ, zero, suc, ◌+◌, ◌-◌, ◌≤◌, ◌<◌, true, List, [], ◌≡◌, refl, length, take, drop, get_or, cond}
use Rattle.fragments.specs.Fragments.{stop, bytes_of, length_bytes_of}
use Rattle.fragments.specs.Held.{total, no_gap}
use Rattle.fragments.specs.Insertion.{insert, any_insert}
use Rattle.fragments.specs.Order.{InOrder, EndBy}
use Rattle.fragments.specs.Shared.{holds, is_held, held_at}
use Rattle.fragments.specs.declared.Fragment.{Fragment}
use Rattle.laws.specs.Any.{any}
use Rattle.laws.specs.Put.{put, length_put, get_or_put}
use Rattle.laws.specs.Truth.{split}
use Rattle.demands.specs.Filled.{tab, filled}

-- ---- laws

length_tab : (n : ℕ) (f : ℕ → ℕ) → length (tab n f) ≡ n
length_tab zero f = refl
length_tab (suc n) f = ap suc (length_tab n (λ i. f (suc i)))

at_tab : (n : ℕ) (f : ℕ → ℕ) (i : ℕ) → i < n → get_or (tab n f) i 0 ≡ f i
at_tab zero f i h = absurd (omega arith)
at_tab (suc n) f zero h = refl
at_tab (suc n) f (suc i) h = at_tab n (λ j. f (suc j)) i (omega arith)

module _ (fs : List Fragment) (scan old : List ℕ) where
  pub length_filled : length (filled fs scan old) ≡ length old
  unfolding filled
  length_filled = length_tab (length old) (λ i. cond (any (holds i) fs) (get_or scan i 0) (get_or old i 0))

  at_filled : (i : ℕ) → i < length old → get_or (filled fs scan old) i 0 ≡ cond (any (holds i) fs) (get_or scan i 0) (get_or old i 0)
  unfolding filled
  at_filled i h = at_tab (length old) (λ i. cond (any (holds i) fs) (get_or scan i 0) (get_or old i 0)) i h

pub filled_none : (scan old : List ℕ) → filled [] scan old ≡ old
filled_none scan old = ext_get_or 0 (filled [] scan old) old (length_filled [] scan old) (λ i h. at_filled [] scan old i (rw length_filled at h))

module _ (fs : List Fragment) (scan old : List ℕ) (f : Fragment) (in-scan : stop f ≤ length scan) (in-room : length scan ≤ length old) where
  size : length (bytes_of scan f) ≡ f.length
  size = length_bytes_of scan f in-scan

  -- the scan's bytes of a fragment, put at its place, fill that place too
  pub put_filled : put (filled fs scan old) f.offset (bytes_of scan f) ≡ filled (insert f fs) scan old
  put_filled =
      ext_get_or 0 (put (filled fs scan old) f.offset (bytes_of scan f)) (filled (insert f fs) scan old)
      (long ∙ sym (length_filled (insert f fs) scan old))
      (λ i h. let h' : i < length old = omega (arith, long) in
      get_or_put (filled fs scan old) f.offset (bytes_of scan f) fits i
      ∙ rw (size, at_filled fs scan old i h') (at i)
      ∙ sym (at_filled (insert f fs) scan old i h'))
    where
      fits : f.offset + length (bytes_of scan f) ≤ length (filled fs scan old)
      fits = rw (size, length_filled fs scan old) (omega arith)

      long : length (put (filled fs scan old) f.offset (bytes_of scan f)) ≡ length old
      long = length_put (filled fs scan old) f.offset (bytes_of scan f) fits ∙ length_filled fs scan old

      at : (i : ℕ) → cond (holds i f) (get_or (bytes_of scan f) (i - f.offset) 0) (cond (any (holds i) fs) (get_or scan i 0) (get_or old i 0)) ≡ cond (any (holds i) (insert f fs)) (get_or scan i 0) (get_or old i 0)
      at i = rw (any_insert f (holds i) fs) (split (holds i f)
          (λ e. let b = held_at i f e in rw (e, get_or-take f.length (drop f.offset scan) (i - f.offset) 0 (omega arith), get_or-drop) (ap (λ (j : ℕ). get_or scan j 0) (omega arith)))
          (λ e. rw e))

  -- and where it has been put, they are read back
  pub bytes_filled : ((i : ℕ) → holds i f ≡ true → any (holds i) fs ≡ true) → bytes_of (filled fs scan old) f ≡ bytes_of scan f
  bytes_filled h =
      ext_get_or 0 (bytes_of (filled fs scan old) f) (bytes_of scan f) (long ∙ sym size)
      (λ i b. let b' : i < f.length = omega (arith, long) in
      rw (get_or-take f.length (drop f.offset (filled fs scan old)) i 0 b', get_or-take f.length (drop f.offset scan) i 0 b', get_or-drop f.offset (filled fs scan old) i 0, get_or-drop f.offset scan i 0, at_filled fs scan old (f.offset + i) (omega arith), h (f.offset + i) (is_held (f.offset + i) f (omega arith) (omega arith))))
    where
      long : length (bytes_of (filled fs scan old) f) ≡ f.length
      long = length_bytes_of (filled fs scan old) f (rw (length_filled fs scan old) (omega arith))

-- An area that fragments without a gap have filled begins with the scan.
pub front_filled : (fs : List Fragment) (scan old : List ℕ) → InOrder 0 fs → EndBy (length scan) fs → total fs ≡ length scan → length scan ≤ length old → take (length scan) (filled fs scan old) ≡ scan
front_filled fs scan old order inside sum fits =
    ext_get_or 0 (take (length scan) (filled fs scan old)) scan long
    (λ i h. let h' : i < length scan = rw long at h in
    rw (get_or-take, at_filled fs scan old i (omega arith), no_gap 0 (length scan) i fs order inside (omega arith) (omega arith) h'))
  where
    long : length (take (length scan) (filled fs scan old)) ≡ length scan
    long = length-take-le (length scan) (filled fs scan old) (rw (length_filled fs scan old) fits)
