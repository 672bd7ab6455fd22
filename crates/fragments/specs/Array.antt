-- The fragments held in an array of 64 places: the first `count` of them. Assumes nothing.
use Prim.Native.Nat.{ℕ, zero, suc, ◌-◌, ◌≤◌, ◌<◌}
use Rattle.std.specs.Prelude.{Bool, false, cond, ◌&&◌, List, [], ◌∷◌, ◌++◌, ◌≡◌, ltb, leb, eqb, take, drop, replicate}
use Rattle.std.proofs.Math.Bool.{true}
use Rattle.std.proofs.Math.Path.{refl}
use Rattle.std.proofs.Common.{sym, ap, ◌∙◌, arith, lt-ltb, length-append, length-drop, take-append-drop, length-take-le, take_all, drop-cons}
use Rattle.std.proofs.Math.ListN.{length}
use Rattle.std.proofs.lemmas.List.{length-replicate}
use Rattle.std.proofs.Math.Seq.{take-append_seam, drop-append_seam}
use Rattle.laws.specs.All.{all}
use Rattle.laws.specs.Insert.{insert_at, length_insert_at}
use Rattle.laws.specs.Truth.{and_true, split, never_both}
use Rattle.fragments.specs.Fragments.{fragment_at, nothing}
use Rattle.fragments.specs.Held.{total, from_zero}
use Rattle.fragments.specs.Insertion.{place, place_behind, in_front}
use Rattle.fragments.specs.Order.{InOrder, are_ordered, last, reach, within_reach}
use Rattle.fragments.specs.Shared.{share, unshared_behind, alike, alike_same, alike_self, alike_shares}
use Rattle.fragments.specs.declared.Fragment.{Fragment}
use Rattle.fragments.specs.declared.Placed.{Placed}
use Rattle.fragments.specs.declared.Surveyed.{Surveyed}

-- A place that is not used.
abbrev pub is_nothing : Fragment → Bool
is_nothing f = alike f nothing

-- What a pass over fragments tells of them: whether they are in order, whether the first begins with byte 0, where the last ends and
-- its marker, and how many bytes they have; and whether the places behind them are unused.
abbrev pub surveyed : List Fragment → List Fragment → Surveyed
surveyed fs behind = record { ordered = are_ordered fs; from_0 = from_zero fs; stop = reach fs; marker = (last fs).marker; bytes = total fs; clear = all is_nothing behind }

-- The outcome of `survey`.
abbrev pub Surveys : List Fragment → ℕ → Surveyed → Type 0
Surveys a count s = s ≡ surveyed (take count a) (drop count a)

-- Where a fragment goes, and what it has to do with the one in front of that place.
abbrev pub placed : Fragment → List Fragment → Placed
placed f fs = record { at = place f fs; shares = share f (in_front f fs); same = alike f (in_front f fs) }

-- The outcome of `place`.
abbrev pub Places : List Fragment → ℕ → Fragment → Placed → Type 0
Places a count f p = p ≡ placed f (take count a)

-- One more at place i of the first n. The place behind them is used up.
unfoldable pub put_in : ℕ → ℕ → Fragment → List Fragment → List Fragment
put_in n i f a = insert_at i f (take n a) ++ drop (suc n) a

-- The outcome of `insert`: nothing changes where all 64 are used, or the first n have no such place.
abbrev pub PutsIn : List Fragment → ℕ → ℕ → Fragment → List Fragment → Type 0
PutsIn a n i f b = b ≡ cond (ltb n 64 && leb i n) (put_in n i f a) a

-- The outcome of `none`.
unfoldable pub no_fragments : List Fragment
no_fragments = replicate 64 nothing

abbrev pub HasNone : List Fragment → Type 0
HasNone a = a ≡ no_fragments

-- Fragments in the array: behind them its places are unused.
unfoldable pub padded : List Fragment → List Fragment
padded fs = fs ++ replicate (64 - length fs) nothing

-- ---- laws

-- of the first n of an array: n is not 0, and the array's first place begins with byte 0
pub first_from_zero : (a : List Fragment) (n : ℕ) → n ≤ length a → from_zero (take n a) ≡ (ltb 0 n && eqb (fragment_at a 0).offset 0)
first_from_zero a zero h = refl
first_from_zero [] (suc n) h = absurd (omega arith)
first_from_zero (f ∷ a) (suc n) h = rw (lt-ltb 0 (suc n) (omega arith))

-- a fragment that begins where the last of those in order ends, or later, goes behind them, and is none of them
pub placed_behind : (f : Fragment) (fs : List Fragment) → InOrder 0 fs → reach fs ≤ f.offset → 1 ≤ f.length → placed f fs ≡ record { at = length fs; shares = false; same = false }
placed_behind f fs o b n = rw (place_behind f fs (within_reach f.offset fs o b) n, take_all (length fs) fs (omega arith), apart, unlike)
  where
    apart : share f (last fs) ≡ false
    apart = unshared_behind f (last fs) b

    unlike : alike f (last fs) ≡ false
    unlike = split (alike f (last fs)) (λ e. absurd (never_both (alike_shares f (last fs) n e) apart)) (λ e. e)

-- one more put in: the first n + 1 hold it at its place, and what is behind is as it was
module _ (a : List Fragment) (n i : ℕ) (f : Fragment) (room : n < length a) where
  size : length (insert_at i f (take n a)) ≡ suc n
  size = length_insert_at i f (take n a) ∙ ap suc (length-take-le n a (omega arith))

  pub put_in_front : take (suc n) (put_in n i f a) ≡ insert_at i f (take n a)
  unfolding put_in
  put_in_front = rw (← size) (take-append_seam (insert_at i f (take n a)) (drop (length (insert_at i f (take n a))) a))

  pub put_in_behind : drop (suc n) (put_in n i f a) ≡ drop (suc n) a
  unfolding put_in
  put_in_behind = rw (← size) (drop-append_seam (insert_at i f (take n a)) (drop (length (insert_at i f (take n a))) a))

module _ (fs : List Fragment) where
  pub held_padded : take (length fs) (padded fs) ≡ fs
  unfolding padded
  held_padded = take-append_seam fs (replicate (64 - length fs) nothing)

  pub unused_padded : all is_nothing (drop (length fs) (padded fs)) ≡ true
  unfolding padded
  unused_padded = rw (drop-append_seam fs (replicate (64 - length fs) nothing)) (unused (64 - length fs))
    where
      unused : (n : ℕ) → all is_nothing (replicate n nothing) ≡ true
      unused zero = refl
      unused (suc n) = rw (alike_self nothing) (unused n)

  pub length_padded : length fs ≤ 64 → length (padded fs) ≡ 64
  unfolding padded
  length_padded h = simp (length-append, length-replicate) (omega arith)

-- an array with nothing behind its first n is these, padded
unused_places : (a : List Fragment) → all is_nothing a ≡ true → a ≡ replicate (length a) nothing
unused_places [] u = refl
unused_places (f ∷ a) u = let t = and_true (is_nothing f) (all is_nothing a) u in cc (alike_same f nothing t.0, unused_places a t.1)

unused_behind : (a : List Fragment) (n : ℕ) → length a ≡ 64 → all is_nothing (drop n a) ≡ true → drop n a ≡ replicate (64 - n) nothing
unused_behind a n long u = unused_places (drop n a) u ∙ rw (length-drop n a, long)

pub padded_self : (a : List Fragment) (n : ℕ) → length a ≡ 64 → n ≤ 64 → all is_nothing (drop n a) ≡ true → a ≡ padded (take n a)
unfolding padded
padded_self a n long h u = rw (length-take-le n a (omega arith), ← unused_behind a n long u) (sym (take-append-drop n a))

-- and so with one more put in
pub put_in_padded : (a : List Fragment) (n i : ℕ) (f : Fragment) → length a ≡ 64 → n < 64 → all is_nothing (drop n a) ≡ true → put_in n i f a ≡ padded (insert_at i f (take n a))
unfolding put_in padded
put_in_padded a n i f long h u = rw (size a n i f (omega arith), unused_behind a (suc n) long rest)
  where
    rest : all is_nothing (drop (suc n) a) ≡ true
    rest = (and_true (is_nothing (fragment_at a n)) (all is_nothing (drop (suc n) a)) (rw (drop-cons a n nothing (omega arith)) at u)).1
