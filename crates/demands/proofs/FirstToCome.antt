-- The first of a picture's packets to come begins the picture, whichever it is. Assumes nothing.
use Rattle.std.proofs.Common.{⊎_elim, sym, ap, ap₂, subst, ◌∙◌, arith, eq-eqb}
use Rattle.std.proofs.lemmas.List.{length-replicate}
use Rattle.std.specs.Prelude.{ℕ, ◌<◌, Bool, true, false, ◌||◌, List, ◌≡◌, refl, eqb, length, get_or}
use Rattle.fragments.specs.Array.{no_fragments, padded}
use Rattle.fragments.specs.Held.{reached}
use Rattle.fragments.specs.declared.Fragment.{Fragment}
use Rattle.laws.specs.Truth.{or_true}
use Rattle.receiver.specs.Picture.{starts, begun, picture_for, picture_begun, picture_well_formed}
use Rattle.receiver.specs.Time.{is_newer}
use Rattle.sender.specs.Picture.{Picture}
use Rattle.sender.specs.declared.Stamp.{Stamp}
use Rattle.state.specs.WellFormed.{well_formed}
use Rattle.state.specs.declared.Receiver.{Receiver}
use Rattle.wire.specs.Lawful.{Lawful}
use Rattle.wire.specs.declared.Header.{Header}
use Rattle.wire.specs.declared.Packet.{Packet}
use Rattle.demands.proofs.Arrived.{area_lent}
use Rattle.demands.proofs.CutsIn.{cuts_in_none}
use Rattle.demands.proofs.Filled.{filled_none}
use Rattle.demands.proofs.OneMore.{new}
use Rattle.demands.proofs.Says.{says}
use Rattle.demands.proofs.Sets.{not_every, none_out}
use Rattle.demands.specs.Arrivals.{Came}
use Rattle.demands.specs.Arrived.{Begun, receiver_with, area_with, arrived, Ok}
use Rattle.demands.specs.Delivery.{Packets, Awaited}
use Rattle.demands.specs.Filled.{filled}
use Rattle.demands.specs.History.{State, state, step}
use Rattle.demands.specs.Sets.{none}

-- What a packet says of a picture's time stamp and header fields alone.
abbrev of_time : ℕ → Header → Packet
of_time time header = record { marker = 0; time = time; offset = 0; header = header; tables = record { at = 0; length = 0 }; scan = record { at = 0; length = 0 } }

module _ {s : Stamp} {p : Picture} {cs : List Fragment} {packet : ℕ → List ℕ} (ps : Packets s p cs packet) {x : State} (awaited : Awaited s p x) (lent : length x.area ≡ x.receiver.room) where
  -- The picture as any of its packets begins it.
  abbrev pub beginning : Begun
  beginning = record {
    stamp = s;
    picture = p;
    cuts = cs;
    packet = packet;
    packets = ps;
    receiver = begun x.receiver (of_time s.time p.header);
    area = x.area;
    source = awaited.bears_the_source;
    time = refl;
    header = refl;
    lent = lent;
    fits = awaited.fits_the_area;
    has_tables = awaited.has_tables;
  }

  abbrev nothing : List Bool
  nothing = none (length cs)

  module _ (well : well_formed x.receiver ≡ true) (k : ℕ) (i : k < length cs) where
    abbrev said : Packet
    said = (says ps k i).said

    starting : starts x.receiver said ≡ true
    starting =
        ap (λ (time : ℕ). empty || is_newer time x.receiver.time) (says ps k i).time
        ∙ ⊎_elim (λ none. rw (eq-eqb x.receiver.picture 0 none)) (λ newer. ap (λ (b : Bool). empty || b) newer ∙ or_true empty) awaited.newer_than_held
      where
        empty : Bool
        empty = eqb x.receiver.picture 0

    nothing_yet : receiver_with beginning nothing ≡ beginning.receiver
    unfolding padded no_fragments reached
    nothing_yet = rw (cuts_in_none cs, none_out (length cs) 0 (omega arith))

    same : picture_for x.receiver said ≡ receiver_with beginning nothing
    same =
        picture_begun x.receiver said starting
        ∙ ap₂ (λ (time : ℕ) (header : Header). begun x.receiver (of_time time header)) (says ps k i).time (says ps k i).header
        ∙ sym nothing_yet

    ok : Ok beginning nothing
    ok = (
      length-replicate (length cs) false,
      subst (λ (v : Receiver). well_formed v ≡ true) same (picture_well_formed x.receiver said well (subst Lawful (sym (says ps k i).header) ps.sendable.header)),
    )

    pub first_comes : Came (arrived beginning) (Ok beginning) nothing k (step x (packet k))
    first_comes =
        subst (λ (area : List ℕ). Came (arrived beginning) (Ok beginning) nothing k (step (state x.receiver area) (packet k))) untouched
        (new beginning nothing ok k i (says ps k i) out x.receiver well (area_lent beginning nothing ok) awaited.bears_the_source same (not_every nothing k out))
      where
        out : get_or nothing k true ≡ false
        out = none_out (length cs) k i

        untouched : area_with beginning nothing ≡ x.area
        untouched = ap (λ (fs : List Fragment). filled fs p.scan x.area) (cuts_in_none cs) ∙ filled_none p.scan x.area
