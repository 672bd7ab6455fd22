-- Fragments in offset order. Assumes nothing.
use Rattle.std.specs.Prelude.{ℕ, ◌≤◌, Bool, not, ◌&&◌, List, [], ◌∷◌, ◌≡◌, refl, ltb, eqb}
use Rattle.std.proofs.Math.Bool.{true}
use Rattle.std.proofs.Common.{sym, ◌∙◌}
use native.Mathlib.Omega.{arith}
use borrow.Author.Tests.{ltb-true, lt-ltb, leb-true, le-leb, eqb-true, eq-eqb, not-true}
use Rattle.std.proofs.Math.Dec.{leb}
use Rattle.laws.specs.All.{all, all_each, each_all, pairwise}
use Rattle.laws.specs.Chained.{chained, last_of}
use Rattle.laws.specs.Each.{Each, each_weaken, each_both}
use Rattle.laws.specs.Truth.{split, and_true, same_test}
use Rattle.fragments.specs.Fragments.{stop, nothing}
use Rattle.fragments.specs.Shared.{share, unshared, stops_in_front}
use Rattle.fragments.specs.Tiles.{marker_before}
use Rattle.fragments.specs.declared.Fragment.{Fragment}

-- of 1 byte or more
abbrev pub has_bytes : Fragment → Bool
has_bytes f = leb 1 f.length

-- g begins behind where f begins
abbrev pub rises : Fragment → Fragment → Bool
rises f g = ltb f.offset g.offset

-- they share no byte
abbrev pub is_apart : Fragment → Fragment → Bool
is_apart f g = not (share f g)

-- it ends inside the room
abbrev pub ends_by : ℕ → Fragment → Bool
ends_by room f = leb (stop f) room

-- no marker but on the last
abbrev pub front_unmarked : List Fragment → Bool
front_unmarked [] = true
front_unmarked (f ∷ []) = true
front_unmarked (f ∷ g ∷ gs) = eqb f.marker 0 && front_unmarked (g ∷ gs)

abbrev pub last : List Fragment → Fragment
last fs = last_of nothing fs

-- where the last ends
abbrev pub reach : List Fragment → ℕ
reach fs = stop (last fs)

-- Fragments of 1 byte or more, rising and apart, and no marker but on the last.
unfoldable pub are_ordered : List Fragment → Bool
are_ordered fs = all has_bytes fs && pairwise rises fs && pairwise is_apart fs && front_unmarked fs

-- The same inside a room, and the marker of the last is 1 or 0.
unfoldable pub in_place : ℕ → List Fragment → Bool
in_place room fs = are_ordered fs && all (ends_by room) fs && leb (last fs).marker 1

-- ---- laws

-- Order as what has to hold of each and the one before it: from `at` on, each has bytes, and ends before the next begins.
abbrev pub InOrder : ℕ → List Fragment → Type 0
InOrder at [] = Unit {0}
InOrder at (f ∷ fs) = (at ≤ f.offset) × (1 ≤ f.length) × InOrder (stop f) fs

pub in_order_from : (at : ℕ) (fs : List Fragment) → InOrder at fs → Each (λ (g : Fragment). at ≤ g.offset) fs
in_order_from at [] r = tt
in_order_from at (f ∷ fs) r = (r.0, each_weaken (λ (g : Fragment). stop f ≤ g.offset) (λ (g : Fragment). at ≤ g.offset) (λ g b. omega arith) fs (in_order_from (stop f) fs r.2))

-- the tests of order tell exactly that
tests_in_order : (at : ℕ) (fs : List Fragment) → Each (λ (g : Fragment). at ≤ g.offset) fs → all has_bytes fs ≡ true → pairwise rises fs ≡ true → pairwise is_apart fs ≡ true → InOrder at fs
tests_in_order at [] b n r a = tt
tests_in_order at (f ∷ fs) b n r a =
    let n' = and_true (has_bytes f) (all has_bytes fs) n in
    let r' = and_true (all (rises f) fs) (pairwise rises fs) r in
    let a' = and_true (all (is_apart f) fs) (pairwise is_apart fs) a in
    let long = leb-true 1 f.length n'.0 in
    let behind = each_weaken
    (λ (g : Fragment). (has_bytes g ≡ true) × ((rises f g ≡ true) × (is_apart f g ≡ true)))
    (λ (g : Fragment). stop f ≤ g.offset)
    (λ g h. let m = leb-true 1 g.length h.0 in
    stops_in_front f g (not-true (share f g) h.1.1) long m (omega (arith, ltb-true f.offset g.offset h.1.0)))
    fs
    (each_both (λ (g : Fragment). has_bytes g ≡ true) (λ (g : Fragment). (rises f g ≡ true) × (is_apart f g ≡ true)) fs
    (all_each has_bytes fs n'.1)
    (each_both (λ (g : Fragment). rises f g ≡ true) (λ (g : Fragment). is_apart f g ≡ true) fs (all_each (rises f) fs r'.0) (all_each (is_apart f) fs a'.0))) in
    (b.0, long, tests_in_order (stop f) fs behind n'.1 r'.1 a'.1)

in_order_tests : (at : ℕ) (fs : List Fragment) → InOrder at fs → (all has_bytes fs ≡ true) × (pairwise rises fs ≡ true) × (pairwise is_apart fs ≡ true)
in_order_tests at [] o = (refl, refl, refl)
in_order_tests at (f ∷ fs) o =
    let t = in_order_tests (stop f) fs o.2 in
    let behind = in_order_from (stop f) fs o.2 in (
      rw (le-leb 1 f.length o.1) t.0,
      rw (each_all (rises f) fs (each_weaken (λ (g : Fragment). stop f ≤ g.offset) (λ (g : Fragment). rises f g ≡ true) (λ g b. lt-ltb f.offset g.offset (omega arith)) fs behind)) t.1,
      rw (each_all (is_apart f) fs (each_weaken (λ (g : Fragment). stop f ≤ g.offset) (λ (g : Fragment). is_apart f g ≡ true) (λ g b. rw (unshared f g b)) fs behind)) t.2,
    )

module _ (fs : List Fragment) where
  from_0 : (gs : List Fragment) → Each (λ (g : Fragment). 0 ≤ g.offset) gs
  from_0 [] = tt
  from_0 (g ∷ gs) = (omega arith, from_0 gs)

  ordered : are_ordered fs ≡ true → InOrder 0 fs × (front_unmarked fs ≡ true)
  unfolding are_ordered
  ordered e =
      let a = and_true (all has_bytes fs && pairwise rises fs && pairwise is_apart fs) (front_unmarked fs) e in
      let b = and_true (all has_bytes fs && pairwise rises fs) (pairwise is_apart fs) a.0 in
      let c = and_true (all has_bytes fs) (pairwise rises fs) b.0 in
      (tests_in_order 0 fs (from_0 fs) c.0 c.1 b.1, a.1)

  is_ordered : InOrder 0 fs → front_unmarked fs ≡ true → are_ordered fs ≡ true
  unfolding are_ordered
  is_ordered o m = let t = in_order_tests 0 fs o in rw (t.0, t.1, t.2) m

-- To be in place, as what has to hold.
abbrev pub EndBy : ℕ → List Fragment → Type 0
EndBy room fs = Each (λ (f : Fragment). stop f ≤ room) fs

abbrev pub MarkedLast : List Fragment → Type 0
MarkedLast [] = Unit {0}
MarkedLast (f ∷ fs) = (f.marker ≤ marker_before fs) × MarkedLast fs

pub record InPlace (room : ℕ) (fs : List Fragment) : Type 0 where
  pub order : InOrder 0 fs
  pub inside : EndBy room fs
  pub marked : MarkedLast fs

front_of_nothing : (fs : List Fragment) → front_unmarked (nothing ∷ fs) ≡ front_unmarked fs
front_of_nothing [] = refl
front_of_nothing (f ∷ fs) = refl

marked_last : (g : Fragment) (fs : List Fragment) → front_unmarked (g ∷ fs) ≡ true → (last_of g fs).marker ≤ 1 → MarkedLast (g ∷ fs)
marked_last g [] m l = (l, tt)
marked_last g (f ∷ fs) m l =
    let t = and_true (eqb g.marker 0) (front_unmarked (f ∷ fs)) m in
    (omega (arith, eqb-true g.marker 0 t.0), marked_last f fs t.1 l)

marked_tests : (g : Fragment) (fs : List Fragment) → MarkedLast (g ∷ fs) → (front_unmarked (g ∷ fs) ≡ true) × ((last_of g fs).marker ≤ 1)
marked_tests g [] m = (refl, m.0)
marked_tests g (f ∷ fs) m = let t = marked_tests f fs m.1 in (rw (eq-eqb g.marker 0 (omega (arith, m.0))) t.0, t.1)

module _ (room : ℕ) (fs : List Fragment) where
  each_ends : all (ends_by room) fs ≡ true → EndBy room fs
  each_ends e = each_weaken (λ (f : Fragment). ends_by room f ≡ true) (λ (f : Fragment). stop f ≤ room) (λ f t. leb-true (stop f) room t) fs (all_each (ends_by room) fs e)

  all_end : EndBy room fs → all (ends_by room) fs ≡ true
  all_end i = each_all (ends_by room) fs (each_weaken (λ (f : Fragment). stop f ≤ room) (λ (f : Fragment). ends_by room f ≡ true) (λ f b. le-leb (stop f) room b) fs i)

  pub known_in_place : in_place room fs ≡ true → InPlace room fs
  unfolding in_place
  known_in_place e =
      let a = and_true (are_ordered fs && all (ends_by room) fs) (leb (last fs).marker 1) e in
      let b = and_true (are_ordered fs) (all (ends_by room) fs) a.0 in
      let o = ordered fs b.0 in
      record {
        order = o.0;
        inside = each_ends b.1;
        marked = (marked_last nothing fs (front_of_nothing fs ∙ o.1) (leb-true (last fs).marker 1 a.1)).1;
      }

  pub is_in_place : InPlace room fs → in_place room fs ≡ true
  unfolding in_place
  is_in_place p =
      let t = marked_tests nothing fs (omega arith, p.marked) in
      rw (is_ordered fs p.order (sym (front_of_nothing fs) ∙ t.0), all_end p.inside) (le-leb (last fs).marker 1 t.1)

-- Order by going through them once: each after the one before it.
unfoldable pub follows : Fragment → Fragment → Bool
follows g f = leb (stop g) f.offset && leb 1 f.length && eqb g.marker 0

chained_tests : (g : Fragment) (fs : List Fragment) → chained follows g fs ≡ true → InOrder (stop g) fs × (front_unmarked (g ∷ fs) ≡ true)
unfolding follows
chained_tests g [] e = (tt, refl)
chained_tests g (f ∷ fs) e =
    let a = and_true (follows g f) (chained follows f fs) e in
    let b = and_true (leb (stop g) f.offset && leb 1 f.length) (eqb g.marker 0) a.0 in
    let c = and_true (leb (stop g) f.offset) (leb 1 f.length) b.0 in
    let t = chained_tests f fs a.1 in
    ((leb-true (stop g) f.offset c.0, leb-true 1 f.length c.1, t.0), rw b.1 t.1)

tests_chained : (g : Fragment) (fs : List Fragment) → InOrder (stop g) fs → front_unmarked (g ∷ fs) ≡ true → chained follows g fs ≡ true
unfolding follows
tests_chained g [] o m = refl
tests_chained g (f ∷ fs) o m =
    let t = and_true (eqb g.marker 0) (front_unmarked (f ∷ fs)) m in
    rw (le-leb (stop g) f.offset o.0, le-leb 1 f.length o.1, t.0) (tests_chained f fs o.2 t.1)

pub ordered_chain : (fs : List Fragment) → chained follows nothing fs ≡ are_ordered fs
ordered_chain fs = same_test (chained follows nothing fs) (are_ordered fs)
    (λ e. let t = chained_tests nothing fs e in is_ordered fs t.0 (sym (front_of_nothing fs) ∙ t.1))
    (λ e. let o = ordered fs e in tests_chained nothing fs o.0 (front_of_nothing fs ∙ o.1))

-- So those in order are in place exactly where the last ends inside the room and has a marker of 0 or 1.
unfoldable pub in_line : ℕ → List Fragment → Bool
in_line room fs = are_ordered fs && leb (reach fs) room && leb (last fs).marker 1

module _ (room : ℕ) where
  ends_by_last : (g : Fragment) (fs : List Fragment) → InOrder (stop g) fs → stop (last_of g fs) ≤ room → EndBy room (g ∷ fs)
  ends_by_last g [] o s = (s, tt)
  ends_by_last g (f ∷ fs) o s = let t = ends_by_last f fs o.2 s in (omega (arith, t.0, o), t)

  pub within_reach : (fs : List Fragment) → InOrder 0 fs → reach fs ≤ room → EndBy room fs
  within_reach fs o s = (ends_by_last nothing fs o s).1

  last_ends : (g : Fragment) (fs : List Fragment) → EndBy room (g ∷ fs) → stop (last_of g fs) ≤ room
  last_ends g [] e = e.0
  last_ends g (f ∷ fs) e = last_ends f fs e.1

  pub reach_within : (fs : List Fragment) → EndBy room fs → reach fs ≤ room
  reach_within fs e = last_ends nothing fs (omega arith, e)

  pub in_line_in_place : (fs : List Fragment) → in_line room fs ≡ in_place room fs
  unfolding in_line in_place
  in_line_in_place fs = split (are_ordered fs) (λ e. rw (e, by_last e)) (λ e. rw e)
    where
      by_last : are_ordered fs ≡ true → leb (reach fs) room ≡ all (ends_by room) fs
      by_last e = same_test (leb (reach fs) room) (all (ends_by room) fs)
          (λ t. all_end room fs (within_reach fs (ordered fs e).0 (leb-true (reach fs) room t)))
          (λ t. le-leb (reach fs) room (reach_within fs (each_ends room fs t)))
