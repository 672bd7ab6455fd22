-- The cuts of a scan that are in a set: what a receiver holds when the packets of that set have come. Assumes nothing.
use Rattle.std.proofs.Common.{inl, inr, sym, ap, arith, lt-ltb, le-ltb}
use Rattle.std.specs.Prelude.{ℕ, zero, suc, ◌+◌, ◌≤◌, ◌<◌, Bool, true, false, List, [], ◌∷◌, ◌⊎◌, ◌≡◌, refl, length, get_or, set}
use Rattle.fragments.specs.Clash.{is_marked, Clear}
use Rattle.fragments.specs.Fragments.{stop, fragment_at}
use Rattle.fragments.specs.Held.{total, end_of, whole, total_within, tiles_total, tiles_end, not_known, not_reached, is_reached}
use Rattle.fragments.specs.Insertion.{insert}
use Rattle.fragments.specs.Order.{InOrder, EndBy}
use Rattle.fragments.specs.Shared.{share, unshared, unshared_behind}
use Rattle.fragments.specs.Tiles.{Tiles, Inside, tiles_inside}
use Rattle.fragments.specs.declared.Fragment.{Fragment}
use Rattle.laws.specs.Any.{any}
use Rattle.laws.specs.Each.{Each, each_weaken}
use Rattle.laws.specs.Truth.{split, never_both, or_true}
use Rattle.demands.specs.CutsIn.{cuts_in}
use Rattle.demands.specs.Sets.{every, none}

-- ---- laws

module _ (P : Fragment → Type 0) where
  each_in : (s : List Bool) (cs : List Fragment) → Each P cs → Each P (cuts_in s cs)
  each_in s [] h = tt
  each_in [] (c ∷ cs) h = tt
  each_in (true ∷ s) (c ∷ cs) h = (h.0, each_in s cs h.1)
  each_in (false ∷ s) (c ∷ cs) h = each_in s cs h.1

  each_of : (cs : List Fragment) → ((k : ℕ) → k < length cs → P (fragment_at cs k)) → Each P cs
  each_of [] h = tt
  each_of (c ∷ cs) h = (h 0 (omega arith), each_of cs (λ k i. h (suc k) (omega arith)))

pub cuts_in_none : (cs : List Fragment) → cuts_in (none (length cs)) cs ≡ []
cuts_in_none [] = refl
cuts_in_none (c ∷ cs) = cuts_in_none cs

pub cuts_in_all : (s : List Bool) (cs : List Fragment) → length s ≡ length cs → every s ≡ true → cuts_in s cs ≡ cs
cuts_in_all s [] l w = refl
cuts_in_all [] (c ∷ cs) l w = absurd (omega arith)
cuts_in_all (true ∷ s) (c ∷ cs) l w = ap (λ (fs : List Fragment). c ∷ fs) (cuts_in_all s cs (omega arith) w)
cuts_in_all (false ∷ s) (c ∷ cs) l w = absurd (never_both w refl)

pub length_cuts_in : (s : List Bool) (cs : List Fragment) → length (cuts_in s cs) ≤ length cs
length_cuts_in s [] = omega arith
length_cuts_in [] (c ∷ cs) = omega arith
length_cuts_in (true ∷ s) (c ∷ cs) = omega (arith, length_cuts_in s cs)
length_cuts_in (false ∷ s) (c ∷ cs) = omega (arith, length_cuts_in s cs)

-- a test that cut k passes, where it is in the set
pub any_cut : (test : Fragment → Bool) (s : List Bool) (cs : List Fragment) (k : ℕ) → k < length cs → length s ≡ length cs → get_or s k true ≡ true → test (fragment_at cs k) ≡ true → any test (cuts_in s cs) ≡ true
any_cut test s [] k i l m t = absurd (omega arith)
any_cut test [] (c ∷ cs) k i l m t = absurd (omega arith)
any_cut test (true ∷ s) (c ∷ cs) zero i l m t = rw t
any_cut test (false ∷ s) (c ∷ cs) zero i l m t = absurd (never_both refl (sym m))
any_cut test (true ∷ s) (c ∷ cs) (suc k) i l m t = rw (any_cut test s cs k (omega arith) (omega arith) m t) (or_true (test c))
any_cut test (false ∷ s) (c ∷ cs) (suc k) i l m t = any_cut test s cs k (omega arith) (omega arith) m t

-- where the cuts tile from `start` to `end`
module _ (end : ℕ) where
  in_inside : (start : ℕ) (s : List Bool) (cs : List Fragment) → Tiles start cs end → Each (Inside start end) (cuts_in s cs)
  in_inside start s cs t = each_in (Inside start end) s cs (each_of (Inside start end) cs (λ k i. tiles_inside start cs end k t i))

  -- those in the set are in order
  pub in_order : (start at : ℕ) (s : List Bool) (cs : List Fragment) → at ≤ start → Tiles start cs end → InOrder at (cuts_in s cs)
  in_order start at s [] b t = tt
  in_order start at [] (c ∷ cs) b t = tt
  in_order start at (true ∷ s) (c ∷ cs) b t = (omega arith, t.1, in_order (stop c) (stop c) s cs (omega arith) t.3)
  in_order start at (false ∷ s) (c ∷ cs) b t = in_order (stop c) at s cs (omega arith) t.3

  pub end_by : (start : ℕ) (s : List Bool) (cs : List Fragment) → Tiles start cs end → EndBy end (cuts_in s cs)
  end_by start s cs t = each_weaken (Inside start end) (λ (g : Fragment). stop g ≤ end) (λ g b. b.to) (cuts_in s cs) (in_inside start s cs t)

  -- A cut that is not in the set shares no byte with those that are,
  apart : (start : ℕ) (s : List Bool) (cs : List Fragment) (k : ℕ) → Tiles start cs end → k < length cs → get_or s k true ≡ false → Each (λ (g : Fragment). share (fragment_at cs k) g ≡ false) (cuts_in s cs)
  apart start s [] k t i m = tt
  apart start [] (c ∷ cs) k t i m = tt
  apart start (true ∷ s) (c ∷ cs) zero t i m = absurd (never_both refl m)
  apart start (false ∷ s) (c ∷ cs) zero t i m = each_weaken (Inside (stop c) end) (λ (g : Fragment). share c g ≡ false) (λ g b. unshared c g b.from) (cuts_in s cs) (in_inside (stop c) s cs t.3)
  apart start (true ∷ s) (c ∷ cs) (suc k) t i m = (unshared_behind (fragment_at cs k) c (tiles_inside (stop c) cs end k t.3 (omega arith)).from, apart (stop c) s cs k t.3 (omega arith) m)
  apart start (false ∷ s) (c ∷ cs) (suc k) t i m = apart (stop c) s cs k t.3 (omega arith) m

  -- and at its place among them it makes the cuts of the set with it.
  pub cut_inserted : (start : ℕ) (s : List Bool) (cs : List Fragment) (k : ℕ) → Tiles start cs end → k < length cs → length s ≡ length cs → get_or s k true ≡ false → insert (fragment_at cs k) (cuts_in s cs) ≡ cuts_in (set s k true) cs
  cut_inserted start s [] k t i l m = absurd (omega arith)
  cut_inserted start [] (c ∷ cs) k t i l m = absurd (omega arith)
  cut_inserted start (true ∷ s) (c ∷ cs) zero t i l m = absurd (never_both refl m)
  cut_inserted start (false ∷ s) (c ∷ cs) zero t i l m = first (cuts_in s cs) (in_inside (stop c) s cs t.3)
    where
      first : (gs : List Fragment) → Each (Inside (stop c) end) gs → insert c gs ≡ c ∷ gs
      first [] h = refl
      first (g ∷ gs) h = rw (le-ltb g.offset (stop c) h.0.from)
  cut_inserted start (true ∷ s) (c ∷ cs) (suc k) t i l m =
      rw (lt-ltb c.offset (stop (fragment_at cs k)) (omega (arith, t.1, (tiles_inside (stop c) cs end k t.3 (omega arith)).from, (tiles_inside (stop c) cs end k t.3 (omega arith)).some)))
      (ap (λ (fs : List Fragment). c ∷ fs) (cut_inserted (stop c) s cs k t.3 (omega arith) (omega arith) m))
  cut_inserted start (false ∷ s) (c ∷ cs) (suc k) t i l m = cut_inserted (stop c) s cs k t.3 (omega arith) (omega arith) m

  -- The end, where it is known, is the scan's;
  end_known : (start : ℕ) (s : List Bool) (cs : List Fragment) → Tiles start cs end → (end_of (cuts_in s cs) ≡ 0) ⊎ (end_of (cuts_in s cs) ≡ end)
  end_known start s [] t = inl refl
  end_known start [] (c ∷ cs) t = inl refl
  end_known start (true ∷ s) (c ∷ []) t = inr (rw t.2 t.3)
  end_known start (true ∷ s) (c ∷ d ∷ cs) t = rw t.2 (end_known (stop c) s (d ∷ cs) t.3)
  end_known start (false ∷ s) (c ∷ cs) t = end_known (stop c) s cs t.3

  -- the marked cut ends there, and without it the end is not known.
  marked_ends : (start : ℕ) (cs : List Fragment) (k : ℕ) → Tiles start cs end → k < length cs → is_marked (fragment_at cs k) ≡ true → stop (fragment_at cs k) ≡ end
  marked_ends start [] k t i m = absurd (omega arith)
  marked_ends start (c ∷ []) zero t i m = t.3
  marked_ends start (c ∷ d ∷ cs) zero t i m = absurd (never_both m (rw t.2))
  marked_ends start (c ∷ cs) (suc k) t i m = marked_ends (stop c) cs k t.3 (omega arith) m

  marked_out : (start : ℕ) (s : List Bool) (cs : List Fragment) (k : ℕ) → Tiles start cs end → k < length cs → get_or s k true ≡ false → is_marked (fragment_at cs k) ≡ true → end_of (cuts_in s cs) ≡ 0
  marked_out start s [] k t i o m = refl
  marked_out start [] (c ∷ cs) k t i o m = refl
  marked_out start (true ∷ s) (c ∷ cs) zero t i o m = absurd (never_both refl o)
  marked_out start (false ∷ s) (c ∷ []) zero t i o m = refl
  marked_out start (false ∷ s) (c ∷ d ∷ cs) zero t i o m = absurd (never_both m (rw t.2))
  marked_out start (b ∷ s) (c ∷ []) (suc k) t i o m = absurd (omega arith)
  marked_out start (true ∷ s) (c ∷ d ∷ cs) (suc k) t i o m = rw t.2 (marked_out (stop c) s (d ∷ cs) k t.3 (omega arith) o m)
  marked_out start (false ∷ s) (c ∷ d ∷ cs) (suc k) t i o m = marked_out (stop c) s (d ∷ cs) k t.3 (omega arith) o m

  -- So it clashes with none of them.
  pub cut_clear : (start : ℕ) (s : List Bool) (cs : List Fragment) (k : ℕ) → Tiles start cs end → k < length cs → get_or s k true ≡ false → Clear (fragment_at cs k) (cuts_in s cs)
  cut_clear start s cs k t i m = record {
    apart = apart start s cs k t i m;
    within = λ n. within n (end_known start s cs t);
    open_still = λ e. marked_out start s cs k t i m e;
    last = λ e. rw (marked_ends start cs k t i e) (end_by start s cs t);
  }
    where
      within : 0 < end_of (cuts_in s cs) → (end_of (cuts_in s cs) ≡ 0) ⊎ (end_of (cuts_in s cs) ≡ end) → stop (fragment_at cs k) ≤ end_of (cuts_in s cs)
      within n (inl z) = absurd (omega arith)
      within n (inr z) = rw z (tiles_inside start cs end k t i).to

  -- Some of the cuts, not all, add up to less than the scan.
  in_less : (start : ℕ) (s : List Bool) (cs : List Fragment) → Tiles start cs end → length s ≡ length cs → every s ≡ false → start + total (cuts_in s cs) < end
  in_less start [] cs t l w = absurd (never_both refl w)
  in_less start (b ∷ s) [] t l w = absurd (omega arith)
  in_less start (true ∷ s) (c ∷ cs) t l w = omega (arith, in_less (stop c) s cs t.3 (omega arith) w)
  in_less start (false ∷ s) (c ∷ cs) t l w =
      omega (arith, t.1, total_within (stop c) end (cuts_in s cs) (in_order (stop c) (stop c) s cs (omega arith) t.3) (end_by (stop c) s cs t.3) (tiles_inside start (c ∷ cs) end 0 t (omega arith)).to)

  -- So a picture is whole when all of its cuts are in the set, and not before.
  pub whole_in : (s : List Bool) (cs : List Fragment) → 0 < end → Tiles 0 cs end → length s ≡ length cs → whole (cuts_in s cs) ≡ every s
  whole_in s cs n t l = split (every s)
      (λ w. rw (w, cuts_in_all s cs l w) (let e = tiles_end end 0 cs n t in is_reached (end_of cs) (total cs) (λ z. omega arith) (omega (arith, tiles_total end 0 cs t))))
      (λ w. rw w (unknown (end_known 0 s cs t) (in_less 0 s cs t l w)))
    where
      fs : List Fragment
      fs = cuts_in s cs

      unknown : (end_of fs ≡ 0) ⊎ (end_of fs ≡ end) → 0 + total fs < end → whole fs ≡ false
      unknown (inl z) h = not_known (end_of fs) (total fs) z
      unknown (inr z) h = not_reached (end_of fs) (total fs) (λ e. omega arith)
