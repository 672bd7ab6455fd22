-- The place of a fragment, by the first that begins where it ends or later. Assumes nothing.
use Rattle.std.specs.Prelude.{ℕ, ◌+◌, ◌-◌, List, [], ◌∷◌, ◌≡◌, ◌&&◌, refl, eqb, ltb, leb, length, get_or}
use Rattle.std.proofs.Common.{Option, None, Some, sym, ap, ◌∙◌, unwrap_or, arith, ltb-false, take_all}
use Rattle.std.specs.Option.{UnwrapsOrElse}
use Rattle.std.proofs.lemmas.Bool.Decides.{nat_tests}
use Rattle.std.specs.List.{position, position_or_len, slice_get}
use Rattle.std.proofs.lemmas.List.Recursion.{is_position_or_len}
use Rattle.std.proofs.lemmas.Option.{unwrap_or-slice_get}
use Rattle.laws.specs.Chained.{last_more}
use Rattle.laws.specs.Truth.{split, and_assoc}
use Rattle.fragments.specs.Fragments.{stop, nothing}
use Rattle.fragments.specs.Insertion.{place, place_within}
use Rattle.fragments.specs.Order.{last}
use Rattle.fragments.specs.Shared.{alike}
use Rattle.fragments.specs.declared.Fragment.{Fragment}

module _ (f : Fragment) (fs : List Fragment) where
  counted : place f fs ≡ position_or_len (λ (g : Fragment). leb (stop f) g.offset) fs
  counted = is_position_or_len (place f) (λ (g : Fragment). leb (stop f) g.offset) refl (λ g gs. grind (arith, nat_tests)) fs

  pub found_place : unwrap_or (position (λ (g : Fragment). leb (stop f) g.offset) fs) (length fs) ≡ place f fs
  found_place = rw (← counted) (split (ltb (place f fs) (length fs)) (λ e. rw e) (λ e. rw e (omega (arith, place_within f fs, ltb-false))))

pub got_last : (fs : List Fragment) → unwrap_or (slice_get fs (length fs - 1)) nothing ≡ last fs
got_last [] = refl
got_last (g ∷ gs) =
    let n = length gs in
    let short : length (g ∷ gs) - 1 ≡ n = omega arith in
    unwrap_or-slice_get (g ∷ gs) (length (g ∷ gs) - 1) nothing
    ∙ ap (λ (k : ℕ). get_or (g ∷ gs) k nothing) short
    ∙ sym (last_more nothing (g ∷ gs) n nothing (omega arith))
    ∙ ap last (take_all (n + 1) (g ∷ gs) (omega arith))

pub or_nothing : (P : Fragment → Type 0) → ((r : Fragment) → P r → r ≡ nothing) → (o : Option Fragment) (r : Fragment) → UnwrapsOrElse o P r → r ≡ unwrap_or o nothing
or_nothing P only None r h = only r h
or_nothing P only (Some x) r h = h

-- what `==` of the struct tells
pub eq_alike : (f g : Fragment) → (eqb f.offset g.offset && (eqb f.length g.length && eqb f.marker g.marker)) ≡ alike f g
unfolding alike
eq_alike f g = and_assoc (eqb f.offset g.offset) (eqb f.length g.length) (eqb f.marker g.marker)
