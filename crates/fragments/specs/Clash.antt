-- A fragment that contradicts those held. Assumes nothing.
use Rattle.std.specs.Prelude.{ℕ, ◌≤◌, ◌<◌, Bool, true, cond, ◌&&◌, ◌||◌, List, [], ◌∷◌, ◌≡◌, refl, eqb, length}
use Rattle.std.proofs.Math.Bool.{false}
use Rattle.std.proofs.Common.{◌∙◌, arith}
use borrow.Author.Tests.{ltb-true, ltb-false, lt-ltb, le-ltb, eqb-true, eqb-false, eq-eqb}
use Rattle.std.proofs.Math.Dec.{ltb, leb-suc-suc}
use Rattle.laws.specs.Any.{any, any_none, none_any}
use Rattle.laws.specs.Each.{Each, each_weaken}
use Rattle.laws.specs.Truth.{split, or_none, same_test}
use Rattle.fragments.specs.Fragments.{stop}
use Rattle.fragments.specs.Held.{end_of}
use Rattle.fragments.specs.Insertion.{place, insert, in_front, any_insert, each_insert, end_unmarked, end_marked, ends_in_front, in_order_insert, near_shares}
use Rattle.fragments.specs.Order.{InOrder, MarkedLast, InPlace}
use Rattle.fragments.specs.Shared.{holds, share, is_held, held_at}
use Rattle.fragments.specs.Tiles.{marker_small}
use Rattle.fragments.specs.declared.Fragment.{Fragment}

abbrev pub is_marked : Fragment → Bool
is_marked f = eqb f.marker 1

-- the end is known
abbrev pub is_known : List Fragment → Bool
is_known fs = ltb 0 (end_of fs)

-- g ends behind f, so that, of 1 byte or more, it has a byte where f ends or behind
abbrev pub ends_behind : Fragment → Fragment → Bool
ends_behind f g = ltb (stop f) (stop g)

-- Document 01: "a shared byte, an end past the known end, a marker when the end is known, or a marker ending before a held byte".
unfoldable pub clashes : Fragment → List Fragment → Bool
clashes f fs =
    any (share f) fs
    || is_known fs && ltb (end_of fs) (stop f)
    || is_marked f && is_known fs
    || is_marked f && any (ends_behind f) fs

-- To clash with none, as what has to hold.
pub record Clear (f : Fragment) (fs : List Fragment) : Type 0 where
  pub apart : Each (λ (g : Fragment). share f g ≡ false) fs
  pub within : 0 < end_of fs → stop f ≤ end_of fs
  pub open_still : is_marked f ≡ true → end_of fs ≡ 0
  pub last : is_marked f ≡ true → Each (λ (g : Fragment). stop g ≤ stop f) fs

-- ---- laws

module _ (f : Fragment) (fs : List Fragment) where
  pub clear : clashes f fs ≡ false → Clear f fs
  unfolding clashes
  clear h =
      let past = is_known fs && ltb (end_of fs) (stop f) in
      let a = or_none (any (share f) fs || past || is_marked f && is_known fs) (is_marked f && any (ends_behind f) fs) h in
      let b = or_none (any (share f) fs || past) (is_marked f && is_known fs) a.0 in
      let c = or_none (any (share f) fs) past b.0 in
      record {
        apart = any_none (share f) fs c.0;
        within = λ k. ltb-false (end_of fs) (stop f) (rw (lt-ltb 0 (end_of fs) k) at c.1);
        open_still = λ m. omega (arith, ltb-false 0 (end_of fs) (rw m at b.1));
        last = λ m. each_weaken (λ (g : Fragment). ends_behind f g ≡ false) (λ (g : Fragment). stop g ≤ stop f) (λ g t. ltb-false (stop f) (stop g) t) fs (any_none (ends_behind f) fs (rw m at a.1));
      }

  pub is_clear : Clear f fs → clashes f fs ≡ false
  unfolding clashes
  is_clear c = rw (none_any (share f) fs c.apart, inside)
      (split (is_marked f)
      (λ m. rw (m, c.open_still m) (none_any (ends_behind f) fs (each_weaken (λ (g : Fragment). stop g ≤ stop f) (λ (g : Fragment). ends_behind f g ≡ false) (λ g b. le-ltb (stop f) (stop g) b) fs (c.last m))))
      (λ m. rw m))
    where
      inside : (is_known fs && ltb (end_of fs) (stop f)) ≡ false
      inside = split (is_known fs) (λ k. rw (k, le-ltb (end_of fs) (stop f) (c.within (ltb-true 0 (end_of fs) k)))) (λ k. rw k)

-- the same as the code asks it: by what the one in front of its place, the end and the place tell
unfoldable pub near_clashes : Fragment → Bool → ℕ → ℕ → ℕ → Bool
near_clashes f shares end at count =
    shares
    || ltb 0 end && ltb end (stop f)
    || is_marked f && ltb 0 end
    || is_marked f && ltb at count

module _ (f : Fragment) (fs : List Fragment) (o : InOrder 0 fs) where
  -- where no byte is shared, one ends behind it exactly where one is behind its place
  pub behind_place : 1 ≤ f.length → any (share f) fs ≡ false → any (ends_behind f) fs ≡ ltb (place f fs) (length fs)
  behind_place n s = go 0 fs o (any_none (share f) fs s)
    where
      go : (at : ℕ) (fs : List Fragment) → InOrder at fs → Each (λ (g : Fragment). share f g ≡ false) fs → any (ends_behind f) fs ≡ ltb (place f fs) (length fs)
      go at [] o s = refl
      go at (g ∷ gs) o s = split (ltb g.offset (stop f))
          (λ e. rw (e, le-ltb (stop f) (stop g) (omega (arith, ends_in_front f g s.0 n o.1 (ltb-true g.offset (stop f) e))), leb-suc-suc)
          (go (stop g) gs o.2 s.1))
          (λ e. rw (e, lt-ltb (stop f) (stop g) (omega (arith, o, ltb-false g.offset (stop f) e)), lt-ltb 0 (length (g ∷ gs)) (omega arith)))

  pub clashes_are_near : 1 ≤ f.length → clashes f fs ≡ near_clashes f (share f (in_front f fs)) (end_of fs) (place f fs) (length fs)
  unfolding clashes near_clashes
  clashes_are_near n = rw (← near_shares f n fs o) (split (any (share f) fs) (λ s. rw s) (λ s. rw (s, behind_place n s)))

  pub end_insert : Clear f fs → end_of (insert f fs) ≡ cond (is_marked f) (stop f) (end_of fs)
  end_insert c = split (is_marked f) (λ m. rw m (end_marked f 0 fs m o (c.open_still m))) (λ m. rw m (end_unmarked f fs m))

-- the marker stays on the last alone
module _ (f : Fragment) (n : 1 ≤ f.length) (small : f.marker ≤ 1) where
  marked_insert : (at : ℕ) (fs : List Fragment) → InOrder at fs → MarkedLast fs → Clear f fs → MarkedLast (insert f fs)
  marked_insert at [] o m c = (small, tt)
  marked_insert at (g ∷ gs) o m c = split (ltb g.offset (stop f))
      (λ e. let b = ends_in_front f g c.apart.0 n o.1 (ltb-true g.offset (stop f) e) in
      split (is_marked g)
      (λ t. absurd (omega (arith, (rw t at c.within) (omega (arith, o)))))
      (λ t. rw e (
        omega (arith, eqb-false g.marker 1 t, m.0, marker_small gs),
        marked_insert (stop g) gs o.2 m.1 (record { apart = c.apart.1; within = rw t at c.within; open_still = rw t at c.open_still; last = λ u. (c.last u).1 }),
      )))
      (λ e. split (is_marked f)
      (λ t. absurd (omega (arith, (c.last t).0, ltb-false g.offset (stop f) e, o)))
      (λ t. rw e (omega (arith, eqb-false f.marker 1 t), m)))

pub in_place_insert : (room : ℕ) (f : Fragment) (fs : List Fragment) → InPlace room fs → Clear f fs → 1 ≤ f.length → f.marker ≤ 1 → stop f ≤ room → InPlace room (insert f fs)
in_place_insert room f fs p c n m h = record {
  order = in_order_insert f 0 fs p.order (omega arith) n c.apart;
  inside = each_insert f (λ (g : Fragment). stop g ≤ room) fs h p.inside;
  marked = marked_insert f n m 0 fs p.order p.marked c;
}

-- byte 0 is held by one that begins there
pub start_insert : (f : Fragment) (fs : List Fragment) → 1 ≤ f.length → any (holds 0) (insert f fs) ≡ (eqb f.offset 0 || any (holds 0) fs)
start_insert f fs n = any_insert f (holds 0) fs ∙ rw starts
  where
    starts : holds 0 f ≡ eqb f.offset 0
    starts = same_test (holds 0 f) (eqb f.offset 0)
        (λ h. eq-eqb f.offset 0 (omega (arith, held_at 0 f h)))
        (λ e. is_held 0 f (omega (arith, eqb-true f.offset 0 e)) (omega arith))
