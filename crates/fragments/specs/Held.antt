-- What fragments in order come to: how many bytes, where the picture ends, whether it is whole. Assumes nothing.
use Rattle.std.specs.Prelude.{ℕ, zero, suc, ◌+◌, ◌≤◌, ◌<◌, Bool, true, false, cond, ◌&&◌, List, [], ◌∷◌, ◌≡◌, refl, ltb, eqb, length, take}
use Rattle.std.proofs.Common.{sym, subst, not-suc-le-zero, le_of_suc-le-suc, add-one, arith}
use borrow.Author.Tests.{ltb-true, ltb-false, lt-ltb, le-ltb, lt-leb, eqb-true, eqb-false, eq-eqb, ne_eqb}
use Rattle.laws.specs.Any.{any, none_any}
use Rattle.laws.specs.Chained.{last_of}
use Rattle.laws.specs.Each.{each_weaken}
use Rattle.laws.specs.Truth.{split, and_true, and_false, or_true}
use Rattle.fragments.specs.Fragments.{stop, fragment_at}
use Rattle.fragments.specs.Order.{InOrder, in_order_from, EndBy, MarkedLast, last}
use Rattle.fragments.specs.Shared.{holds, is_held}
use Rattle.fragments.specs.Tiles.{Tiles, tiles_inside}
use Rattle.fragments.specs.declared.Fragment.{Fragment}

abbrev pub total : List Fragment → ℕ
total [] = 0
total (f ∷ fs) = f.length + total fs

-- There is a first, and it begins with byte 0 of the scan.
abbrev pub from_zero : List Fragment → Bool
from_zero [] = false
from_zero (f ∷ fs) = eqb f.offset 0

-- The end is the marked fragment's offset plus length, and 0 while it is not known.
abbrev pub end_of : List Fragment → ℕ
end_of [] = 0
end_of (f ∷ fs) = cond (eqb f.marker 1) (stop f) (end_of fs)

-- The end is known, and the bytes add up to it.
unfoldable pub reached : ℕ → ℕ → Bool
reached end bytes = ltb 0 end && eqb bytes end

abbrev pub whole : List Fragment → Bool
whole fs = reached (end_of fs) (total fs)

-- ---- laws

total_suc : (fs : List Fragment) (i : ℕ) → i < length fs → total (take (suc i) fs) ≡ total (take i fs) + (fragment_at fs i).length
total_suc [] i h = absurd (not-suc-le-zero h)
total_suc (f ∷ fs) zero h = omega arith
total_suc (f ∷ fs) (suc i) h = omega (arith, total_suc fs i (le_of_suc-le-suc h))

-- one fragment more of the front of a list
pub total_more : (fs : List Fragment) (i : ℕ) → i < length fs → total (take (i + 1) fs) ≡ total (take i fs) + (fragment_at fs i).length
total_more fs i h = rw add-one (total_suc fs i h)

-- in order and within e, there are no more bytes than places
pub total_within : (at e : ℕ) (fs : List Fragment) → InOrder at fs → EndBy e fs → at ≤ e → at + total fs ≤ e
total_within at e [] o n a = omega arith
total_within at e (f ∷ fs) o n a = omega (arith, total_within (stop f) e fs o.2 n.1 n.0)

-- and where there are as many, there is no gap
pub no_gap : (at e i : ℕ) (fs : List Fragment) → InOrder at fs → EndBy e fs → at + total fs ≡ e → at ≤ i → i < e → any (holds i) fs ≡ true
no_gap at e i [] o n t a b = absurd (omega arith)
no_gap at e i (f ∷ fs) o n t a b = split (ltb i (stop f))
    (λ h. rw (is_held i f (omega (arith, total_within (stop f) e fs o.2 n.1 n.0)) (ltb-true i (stop f) h)))
    (λ h. rw (no_gap (stop f) e i fs o.2 n.1 (omega (arith, total_within (stop f) e fs o.2 n.1 n.0)) (ltb-false i (stop f) h) b) (or_true (holds i f)))

-- where the end is known, the marker on the last alone, they are within it
pub ended : (at : ℕ) (fs : List Fragment) → InOrder at fs → MarkedLast fs → 0 < end_of fs → EndBy (end_of fs) fs
ended at [] o m k = tt
ended at (f ∷ []) o m k = split (eqb f.marker 1) (λ e. (rw e (omega arith), tt)) (λ e. absurd (let z = rw e at k in omega arith))
ended at (f ∷ g ∷ gs) o m k =
    let later : end_of (f ∷ g ∷ gs) ≡ end_of (g ∷ gs) = rw (ne_eqb f.marker 1 (λ e. omega (arith, m.0))) in
    let rest = ended (stop f) (g ∷ gs) o.2 m.1 (rw later at k) in
    subst (λ (e : ℕ). EndBy e (f ∷ g ∷ gs)) (sym later) (omega (arith, o, rest.0), rest)

-- fragments that tile have as many bytes as there are places, and tell the end
module _ (end : ℕ) where
  pub tiles_total : (start : ℕ) (cs : List Fragment) → Tiles start cs end → start + total cs ≡ end
  tiles_total start [] t = omega arith
  tiles_total start (c ∷ cs) t = omega (arith, tiles_total (stop c) cs t.3)

  pub tiles_end : (start : ℕ) (cs : List Fragment) → start < end → Tiles start cs end → end_of cs ≡ end
  tiles_end start [] n t = absurd (omega arith)
  tiles_end start (c ∷ []) n t = rw t.2 t.3
  tiles_end start (c ∷ d ∷ cs) n t =
      let i = tiles_inside (stop c) (d ∷ cs) end 0 t.3 (omega arith) in
      rw t.2 (tiles_end (stop c) (d ∷ cs) (omega (arith, i.from, i.some, i.to)) t.3)

-- byte 0 is held exactly where there is a first and it begins there
pub start_held : (fs : List Fragment) → InOrder 0 fs → any (holds 0) fs ≡ from_zero fs
start_held [] o = refl
start_held (f ∷ fs) o = split (eqb f.offset 0)
    (λ e. let z = eqb-true f.offset 0 e in rw (is_held 0 f (omega arith) (omega (arith, o)), e))
    (λ e. let z = eqb-false f.offset 0 e in
    rw (lt-leb f.offset 0 (omega (arith, z)), e)
    (none_any (holds 0) fs (each_weaken (λ (g : Fragment). stop f ≤ g.offset) (λ (g : Fragment). holds 0 g ≡ false) (λ g b. rw (lt-leb g.offset 0 (omega (arith, o)))) fs (in_order_from (stop f) fs o.2))))

-- the end is read off the last alone where no other has a marker
pub end_last : (fs : List Fragment) → MarkedLast fs → end_of fs ≡ end_of (last fs ∷ [])
end_last [] m = refl
end_last (f ∷ fs) m = go f fs m
  where
    go : (f : Fragment) (fs : List Fragment) → MarkedLast (f ∷ fs) → end_of (f ∷ fs) ≡ end_of (last_of f fs ∷ [])
    go f [] m = refl
    go f (g ∷ gs) m = rw (ne_eqb f.marker 1 (λ e. omega (arith, m.0))) (go g gs m.1)

module _ (end bytes : ℕ) where
  pub not_known : end ≡ 0 → reached end bytes ≡ false
  unfolding reached
  not_known z = rw (le-ltb 0 end (omega arith))

  pub not_reached : (bytes ≡ end → ⊥) → reached end bytes ≡ false
  unfolding reached
  not_reached h = rw (ne_eqb bytes end h) (and_false (ltb 0 end))

  pub is_reached : (end ≡ 0 → ⊥) → bytes ≡ end → reached end bytes ≡ true
  unfolding reached
  is_reached z e = rw (lt-ltb 0 end (omega (arith, z)), eq-eqb bytes end e)

pub record Whole (fs : List Fragment) : Type 0 where
  pub known : 0 < end_of fs
  pub sum : total fs ≡ end_of fs

pub is_whole : (fs : List Fragment) → whole fs ≡ true → Whole fs
unfolding reached
is_whole fs e =
    let t = and_true (ltb 0 (end_of fs)) (eqb (total fs) (end_of fs)) e in
    record { known = ltb-true 0 (end_of fs) t.0; sum = eqb-true (total fs) (end_of fs) t.1 }
