-- Where a fragment goes among those held in offset order. Assumes nothing.
use Rattle.std.specs.Prelude.{ℕ, zero, suc, ◌+◌, ◌≤◌, ◌<◌, max, Bool, true, false, cond, ◌||◌, List, [], ◌∷◌, ◌≡◌, refl, ltb, eqb, length, take, drop}
use Rattle.std.proofs.Common.{sym, ap, ◌∙◌, add-one, arith, ltb-true, ltb-false, lt-ltb, le-ltb}
use Rattle.laws.specs.Any.{any, none_any}
use Rattle.laws.specs.Chained.{last_of}
use Rattle.laws.specs.Each.{Each, each_weaken}
use Rattle.laws.specs.Insert.{insert_at, length_insert_at, any_insert_at, each_insert_at}
use Rattle.laws.specs.Truth.{split, never_both, or_false}
use Rattle.fragments.specs.Fragments.{stop, fragment_at, nothing}
use Rattle.fragments.specs.Held.{total, end_of}
use Rattle.fragments.specs.Order.{EndBy, InOrder, in_order_from, last}
use Rattle.fragments.specs.Shared.{share, alike, unshared, unshared_behind, byte_shared, held_at, stops_in_front, shared, share_swap, alike_same, alike_shares}
use Rattle.fragments.specs.declared.Fragment.{Fragment}

-- how many, from the first on, begin before a byte of the scan
abbrev pub before : ℕ → List Fragment → ℕ
before end [] = 0
before end (g ∷ gs) = cond (ltb g.offset end) (suc (before end gs)) 0

-- A fragment goes behind those that begin before it ends.
abbrev pub place : Fragment → List Fragment → ℕ
place f fs = before (stop f) fs

abbrev pub insert : Fragment → List Fragment → List Fragment
insert f fs = insert_at (place f fs) f fs

-- The one in front of its place.
abbrev pub in_front : Fragment → List Fragment → Fragment
in_front f fs = last (take (place f fs) fs)

-- ---- laws

-- going through them from the first on: each that begins before the end is one more, and the first that does not is the place
module _ (end : ℕ) where
  pub before_more : (fs : List Fragment) (i : ℕ) → i < length fs → (fragment_at fs i).offset < end → i + before end (drop i fs) ≡ i + 1 + before end (drop (i + 1) fs)
  before_more fs i h b = rw (add-one i) (go fs i h b)
    where
      go : (fs : List Fragment) (i : ℕ) → i < length fs → (fragment_at fs i).offset < end → i + before end (drop i fs) ≡ suc i + before end (drop (suc i) fs)
      go [] i h b = absurd (omega arith)
      go (f ∷ fs) zero h b = rw (lt-ltb f.offset end b) (omega arith)
      go (f ∷ fs) (suc i) h b = omega (arith, go fs i (omega arith) b)

  pub before_end : (fs : List Fragment) (i : ℕ) → i < length fs → end ≤ (fragment_at fs i).offset → before end (drop i fs) ≡ 0
  before_end [] i h b = absurd (omega arith)
  before_end (f ∷ fs) zero h b = rw (le-ltb f.offset end b)
  before_end (f ∷ fs) (suc i) h b = before_end fs i (omega arith) b

module _ (f : Fragment) where
  pub place_within : (fs : List Fragment) → place f fs ≤ length fs
  place_within [] = omega arith
  place_within (g ∷ gs) = split (ltb g.offset (stop f)) (λ e. rw e (omega (arith, place_within gs))) (λ e. rw e (omega arith))

  -- one that begins where they all have ended goes behind them all
  pub place_behind : (fs : List Fragment) → EndBy f.offset fs → 1 ≤ f.length → place f fs ≡ length fs
  place_behind [] e n = refl
  place_behind (g ∷ gs) e n = rw (lt-ltb g.offset (stop f) (omega (arith, e.0))) (ap suc (place_behind gs e.1 n))

  pub length_insert : (fs : List Fragment) → length (insert f fs) ≡ suc (length fs)
  length_insert fs = length_insert_at (place f fs) f fs

  pub any_insert : (test : Fragment → Bool) (fs : List Fragment) → any test (insert f fs) ≡ (test f || any test fs)
  any_insert test fs = any_insert_at test (place f fs) f fs

  pub each_insert : (P : Fragment → Type 0) (fs : List Fragment) → P f → Each P fs → Each P (insert f fs)
  each_insert P fs h a = each_insert_at P (place f fs) f fs h a

  -- the total grows by its length
  pub total_insert : (fs : List Fragment) → total (insert f fs) ≡ f.length + total fs
  total_insert [] = refl
  total_insert (g ∷ gs) = split (ltb g.offset (stop f)) (λ e. rw e (omega (arith, total_insert gs))) (λ e. rw e)

  -- the end stays as it is without the marker, and where none was known it is the end of the one with the marker
  pub end_unmarked : (fs : List Fragment) → eqb f.marker 1 ≡ false → end_of (insert f fs) ≡ end_of fs
  end_unmarked [] m = rw m
  end_unmarked (g ∷ gs) m = split (ltb g.offset (stop f)) (λ e. rw (e, end_unmarked gs m)) (λ e. rw (e, m))

  pub end_marked : (at : ℕ) (fs : List Fragment) → eqb f.marker 1 ≡ true → InOrder at fs → end_of fs ≡ 0 → end_of (insert f fs) ≡ stop f
  end_marked at [] m o z = rw m
  end_marked at (g ∷ gs) m o z = split (ltb g.offset (stop f))
      (λ e. rw e (split (eqb g.marker 1)
      (λ n. absurd (omega (arith, rw n at z, o)))
      (λ n. rw n (end_marked (stop g) gs m o.2 (rw n at z)))))
      (λ e. rw (e, m))

  -- those that share no byte with it and begin before it ends are in front of it
  pub ends_in_front : (g : Fragment) → share f g ≡ false → 1 ≤ f.length → 1 ≤ g.length → g.offset < stop f → stop g ≤ f.offset
  ends_in_front g s n m b = stops_in_front g f (share_swap f g ∙ s) m n b

  -- and stay in order
  pub in_order_insert : (at : ℕ) (fs : List Fragment) → InOrder at fs → at ≤ f.offset → 1 ≤ f.length → Each (λ (g : Fragment). share f g ≡ false) fs → InOrder at (insert f fs)
  in_order_insert at [] o a n s = (a, n, tt)
  in_order_insert at (g ∷ gs) o a n s = split (ltb g.offset (stop f))
      (λ e. rw e (o.0, o.1, in_order_insert (stop g) gs o.2 (ends_in_front g s.0 n o.1 (ltb-true g.offset (stop f) e)) n s.1))
      (λ e. rw e (a, n, (ltb-false g.offset (stop f) e, o.1, o.2)))

  -- Of those held in order, the one in front of its place tells for all: what is further in front ends before that one begins, and
  -- what is behind begins where it ends or later. So for a test that only those pass that share a byte with it, and that goes on
  -- to each next one that begins before it ends.
  module _ (test : Fragment → Bool) (only : (g : Fragment) → share f g ≡ false → test g ≡ false)
      (on : (g h : Fragment) → stop g ≤ h.offset → h.offset < stop f → 1 ≤ h.length → test g ≡ true → test h ≡ true) where
    behind : (fs : List Fragment) (at : ℕ) → InOrder at fs → stop f ≤ at → any test fs ≡ false
    behind fs at o b = none_any test fs
        (each_weaken (λ (g : Fragment). at ≤ g.offset) (λ (g : Fragment). test g ≡ false) (λ g c. only g (unshared f g (omega arith))) fs (in_order_from at fs o))

    from : (g : Fragment) (gs : List Fragment) (at : ℕ) → InOrder at (g ∷ gs) → g.offset < stop f → any test (g ∷ gs) ≡ test (last_of g (take (place f gs) gs))
    from g [] at o b = or_false (test g)
    from g (h ∷ hs) at o b = split (ltb h.offset (stop f))
        (λ e. let c = ltb-true h.offset (stop f) e in
        let next = from h hs (stop g) o.2 c in
        rw e (split (test g) (λ t. rw t (rw (on g h o.2.0 c o.2.1 t) at next)) (λ t. rw t next)))
        (λ e. rw (e, behind (h ∷ hs) h.offset (omega arith, o.2.1, o.2.2) (ltb-false h.offset (stop f) e)) (or_false (test g)))

    none : test nothing ≡ false
    none = only nothing (unshared_behind f nothing (omega arith))

    near : (fs : List Fragment) → InOrder 0 fs → any test fs ≡ test (in_front f fs)
    near [] o = sym none
    near (g ∷ gs) o = split (ltb g.offset (stop f))
        (λ e. rw e (from g gs 0 o (ltb-true g.offset (stop f) e)))
        (λ e. rw e (behind (g ∷ gs) g.offset (omega arith, o.1, o.2) (ltb-false g.offset (stop f) e) ∙ sym none))

  module _ (n : 1 ≤ f.length) (fs : List Fragment) (o : InOrder 0 fs) where
    pub near_shares : any (share f) fs ≡ share f (in_front f fs)
    near_shares = near (share f) (λ g s. s) (λ g h a b m s. goes_on g h a b m s) fs o
      where
        goes_on : (g h : Fragment) → stop g ≤ h.offset → h.offset < stop f → 1 ≤ h.length → share f g ≡ true → share f h ≡ true
        goes_on g h a b m s = shared f h (omega (arith, held_at (max f.offset g.offset) f (byte_shared f g s).0, held_at (max f.offset g.offset) g (byte_shared f g s).1)) b n m

    pub near_alike : any (alike f) fs ≡ alike f (in_front f fs)
    near_alike = near (alike f) (λ g s. unlike g s) (λ g h a b m e. absurd (apart g h a b e)) fs o
      where
        unlike : (g : Fragment) → share f g ≡ false → alike f g ≡ false
        unlike g s = split (alike f g) (λ e. absurd (never_both (alike_shares f g n e) s)) (λ e. e)

        apart : (g h : Fragment) → stop g ≤ h.offset → h.offset < stop f → alike f g ≡ true → ⊥
        apart g h a b e = let same : stop f ≡ stop g = ap stop (alike_same f g e) in omega arith
