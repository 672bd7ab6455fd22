-- The bytes that two fragments share. Assumes nothing.
use Prim.Native.Nat.{ℕ, ◌≤◌, ◌<◌, min, max}
use Rattle.std.specs.Prelude.{Bool, true, false, ◌&&◌, ◌≡◌, refl, ltb, leb}
use Rattle.std.proofs.Common.{subst, arith}
use borrow.Author.Tests.{ltb-true, ltb-false, lt-ltb, le-ltb, leb-true, le-leb, eqb-true, eq-eqb}
use Rattle.std.proofs.Math.Dec.{eqb}
use Rattle.laws.specs.Truth.{split, and_true, never_both, same_test}
use Rattle.fragments.specs.Fragments.{stop}
use Rattle.fragments.specs.declared.Fragment.{Fragment}

-- byte i of the scan lies in f
abbrev pub holds : ℕ → Fragment → Bool
holds i f = leb f.offset i && ltb i (stop f)

-- f and g have a byte in common
unfoldable pub share : Fragment → Fragment → Bool
share f g = ltb (max f.offset g.offset) (min (stop f) (stop g))

-- f and g have the same offset, length and marker
unfoldable pub alike : Fragment → Fragment → Bool
alike f g = eqb f.offset g.offset && eqb f.length g.length && eqb f.marker g.marker

-- ---- laws

pub is_held : (i : ℕ) (f : Fragment) → f.offset ≤ i → i < stop f → holds i f ≡ true
is_held i f a b = rw (le-leb f.offset i a, lt-ltb i (stop f) b)

pub held_at : (i : ℕ) (f : Fragment) → holds i f ≡ true → (f.offset ≤ i) × (i < stop f)
held_at i f h = let t = and_true (leb f.offset i) (ltb i (stop f)) h in (leb-true f.offset i t.0, ltb-true i (stop f) t.1)

module _ (f g : Fragment) where
  -- they share a byte exactly where some byte lies in both
  pub share_byte : (i : ℕ) → holds i f ≡ true → holds i g ≡ true → share f g ≡ true
  unfolding share
  share_byte i a b = lt-ltb (max f.offset g.offset) (min (stop f) (stop g)) (omega (arith, held_at i f a, held_at i g b))

  pub byte_shared : share f g ≡ true → (holds (max f.offset g.offset) f ≡ true) × (holds (max f.offset g.offset) g ≡ true)
  unfolding share
  byte_shared h =
      let i = max f.offset g.offset in
      let b = ltb-true i (min (stop f) (stop g)) h in
      (is_held i f (omega arith) (omega arith), is_held i g (omega arith) (omega arith))

  pub shared : f.offset < stop g → g.offset < stop f → 1 ≤ f.length → 1 ≤ g.length → share f g ≡ true
  unfolding share
  shared a b n m = lt-ltb (max f.offset g.offset) (min (stop f) (stop g)) (omega arith)

  -- none where one ends before the other begins
  pub unshared : stop f ≤ g.offset → share f g ≡ false
  unfolding share
  unshared h = le-ltb (max f.offset g.offset) (min (stop f) (stop g)) (omega arith)

  pub unshared_behind : stop g ≤ f.offset → share f g ≡ false
  unfolding share
  unshared_behind h = le-ltb (max f.offset g.offset) (min (stop f) (stop g)) (omega arith)

  -- and then, of two that have bytes, the one that begins before the other ends is in front of it
  pub stops_in_front : share f g ≡ false → 1 ≤ f.length → 1 ≤ g.length → f.offset < stop g → stop f ≤ g.offset
  stops_in_front h n m a = split (ltb g.offset (stop f))
      (λ e. absurd (never_both (shared a (ltb-true g.offset (stop f) e) n m) h))
      (λ e. ltb-false g.offset (stop f) e)

  pub alike_same : alike f g ≡ true → f ≡ g
  unfolding alike
  alike_same h =
      let t = and_true (eqb f.offset g.offset && eqb f.length g.length) (eqb f.marker g.marker) h in
      let u = and_true (eqb f.offset g.offset) (eqb f.length g.length) t.0 in
      same_fields (eqb-true f.offset g.offset u.0) (eqb-true f.length g.length u.1) (eqb-true f.marker g.marker t.1)
    where
      fragment : ℕ → ℕ → ℕ → Fragment
      fragment offset length marker = record { offset = offset; length = length; marker = marker }

      same_fields : f.offset ≡ g.offset → f.length ≡ g.length → f.marker ≡ g.marker → fragment f.offset f.length f.marker ≡ fragment g.offset g.length g.marker
      same_fields a b c = cc

pub share_swap : (f g : Fragment) → share g f ≡ share f g
share_swap f g = same_test (share g f) (share f g)
    (λ e. let b = byte_shared g f e in share_byte f g (max g.offset f.offset) b.1 b.0)
    (λ e. let b = byte_shared f g e in share_byte g f (max f.offset g.offset) b.1 b.0)

pub alike_self : (f : Fragment) → alike f f ≡ true
unfolding alike
alike_self f = rw (eq-eqb f.offset f.offset refl, eq-eqb f.length f.length refl, eq-eqb f.marker f.marker refl)

pub alike_shares : (f g : Fragment) → 1 ≤ f.length → alike f g ≡ true → share f g ≡ true
alike_shares f g n e = shares (alike_same f g e)
  where
    shares : {h : Fragment} → f ≡ h → share f h ≡ true
    shares e = subst (λ (h : Fragment). share f h ≡ true) e (shared f f (omega arith) (omega arith) n n)
