-- What the pass over the fragments tells of a packet for the picture that it is for. Assumes nothing.
use Rattle.std.proofs.Common.{◌≡◌, ℕ, ◌&&◌, List, length, take, sym, refl, ap, ◌∙◌, arith, length-take-le}
use Rattle.fragments.specs.Array.{placed}
use Rattle.fragments.specs.Clash.{clashes, near_clashes, clashes_are_near}
use Rattle.fragments.specs.Held.{end_of}
use Rattle.fragments.specs.Insertion.{place, near_alike}
use Rattle.fragments.specs.Shared.{alike}
use Rattle.fragments.specs.declared.Placed.{Placed}
use Rattle.laws.specs.Any.{any}
use Rattle.state.specs.Receiver.{held_fragments}
use Rattle.state.specs.declared.Receiver.{Receiver}
use Rattle.wire.specs.Readable.{scan_some}
use Rattle.wire.specs.declared.Packet.{Packet}
use Rattle.receiver.specs.Known.{Known}
use Rattle.receiver.specs.declared.judge.Arrival.{Arrival}
use Rattle.receiver.specs.Picture.{picture_for, by_picture, picture_count, picture_in_place, picture_end}
use Rattle.receiver.specs.Verdict.{fragment_of, same_contents, is_again}

module _ (r : Receiver) (s : Packet) where
  -- its fragments are the first of the receiver's, and a begun picture has none of them
  pub picture_fragments : take (picture_for r s).fragment_count r.fragments ≡ held_fragments (picture_for r s)
  picture_fragments = by_picture r s (λ (v : Receiver). take v.fragment_count r.fragments ≡ held_fragments v) refl refl

  -- and since nothing is held of a begun picture, its tables are never asked for
  pub again_by : (area p : List ℕ) → is_again (picture_for r s) area p s ≡ (any (alike (fragment_of s)) (held_fragments (picture_for r s)) && same_contents area p s r.tables)
  again_by area p = by_picture r s (λ (v : Receiver). is_again v area p s ≡ (any (alike (fragment_of s)) (held_fragments v) && same_contents area p s r.tables)) refl refl

module _ {r : Receiver} {a : Arrival} (known : Known r a) where
  pub picture_length : length (held_fragments (picture_for r a.said)) ≡ (picture_for r a.said).fragment_count
  picture_length =
      ap length (sym (picture_fragments r a.said))
      ∙ length-take-le (picture_for r a.said).fragment_count r.fragments (omega (arith, known.long, picture_count r a.said known.formed))

  module _ {q : Placed} (told : q ≡ placed (fragment_of a.said) (take (picture_for r a.said).fragment_count r.fragments)) where
    placed_in : q ≡ placed (fragment_of a.said) (held_fragments (picture_for r a.said))
    placed_in = rw (picture_fragments r a.said) at told

    pub at_place : q.at ≡ place (fragment_of a.said) (held_fragments (picture_for r a.said))
    at_place = ap (λ (x : Placed). x.at) placed_in

    pub same_held : q.same ≡ any (alike (fragment_of a.said)) (held_fragments (picture_for r a.said))
    same_held =
        ap (λ (x : Placed). x.same) placed_in
        ∙ sym (near_alike (fragment_of a.said) (scan_some r.source a.packet.now a.said known.read) (held_fragments (picture_for r a.said)) (picture_in_place r a.said known.formed).order)

    pub clash_told : near_clashes (fragment_of a.said) q.shares (picture_for r a.said).end q.at (picture_for r a.said).fragment_count ≡ clashes (fragment_of a.said) (held_fragments (picture_for r a.said))
    clash_told =
        let f = fragment_of a.said in
        let fs = held_fragments (picture_for r a.said) in
        ap (near_clashes f q.shares (picture_for r a.said).end q.at) (sym picture_length)
        ∙ ap (λ (e : ℕ). near_clashes f q.shares e q.at (length fs)) (picture_end r a.said known.formed)
        ∙ ap (λ (x : Placed). near_clashes f x.shares (end_of fs) x.at (length fs)) placed_in
        ∙ sym (clashes_are_near f fs (picture_in_place r a.said known.formed).order (scan_some r.source a.packet.now a.said known.read))
