-- `fragments::place` meets its contract. Assumes nothing.
use Rattle.std.proofs.Common.{◌≡◌, ◌∙◌, ◌-◌, ap, rules, tests, take, length, leb}
use Rattle.std.specs.List.{position, slice_get}
use Rattle.std.proofs.lemmas.Iterator.{YieldsList-from_slice}
use Rattle.std.proofs.lemmas.Iterator.Search.{position_from_yields_List}
use Rattle.fragments.specs.Insertion.{place, in_front}
use Rattle.fragments.specs.Shared.{share, alike}
use Rattle.fragments.specs.declared.Fragment.{Fragment}
use Rattle.fragments.proofs.Count.{first_of_64}
use Rattle.fragments.proofs.Found.{found_place, got_last, or_nothing, eq_alike}
use Rattle.fragments.proofs.place.Goals as goal

pub returns : goal.returns
returns c =
    let f = c.args.f in
    let held = take c.min.result c.args.fragments.now in
    let found : c.position.result ≡ position (λ (g : Fragment). leb c.stop-end.result g.offset) held =
    position_from_yields_List (λ (g : Fragment). leb c.stop-end.result g.offset) _ _ c.position.result c.position.ensures.ran (YieldsList-from_slice _ c.iter.ensures.rest) (λ x b q k. search (rules, tests)) in
    let at : c.unwrap_or-at.result ≡ place f held = rw (c.unwrap_or-at.ensures, found, c.stop-end.ensures) (found_place f held) in
    let got : c.copied.result ≡ slice_get (take c.unwrap_or-at.result held) (length (take c.unwrap_or-at.result held) - 1) = c.copied.ensures ∙ c.last.ensures.value in
    let front : c.unwrap_or_default-front.result ≡ in_front f held =
    or_nothing _ (λ r e. search rules) c.copied.result c.unwrap_or_default-front.result c.unwrap_or_default-front.ensures ∙ rw (got, got_last (take c.unwrap_or-at.result held), at) in
    let all : held ≡ take c.args.count c.args.fragments.now = first_of_64 c.args.count c.args.fragments.now (search rules) (search rules) in
    let shares : c.share.result ≡ share f (in_front f held) = c.share.ensures ∙ ap (share f) front in
    let same : c.eq.result ≡ alike f (in_front f held) = c.eq.ensures ∙ eq_alike f c.unwrap_or_default-front.result ∙ ap (alike f) front in
    rw (← all) (cc (at, shares, same))
