-- After any packets, each byte that is held is one that a packet brought for its place, and that was accepted for the picture that
-- is held. Assumes nothing.
use Rattle.std.proofs.Common.{append_assoc, append-nil, sym, subst, ◌∙◌, arith, ap}
use Rattle.std.specs.Prelude.{ℕ, zero, suc, ◌-◌, ◌^◌, ◌≤◌, ◌<◌, true, false, cond, List, [], ◌∷◌, ◌++◌, ◌≡◌, refl, length, get_or}
use Rattle.fragments.specs.Fragments.{stop, nothing, fragment_at}
use Rattle.fragments.specs.Held.{end_of, Whole, is_whole, no_gap, ended}
use Rattle.fragments.specs.Insertion.{insert, any_insert}
use Rattle.fragments.specs.Order.{InOrder, in_order_from}
use Rattle.fragments.specs.Shared.{holds, held_at}
use Rattle.fragments.specs.declared.Fragment.{Fragment}
use Rattle.laws.specs.Any.{any}
use Rattle.laws.specs.Each.{Each, each_append, each_at}
use Rattle.laws.specs.Put.{get_or_put}
use Rattle.laws.specs.Truth.{split, never_both}
use Rattle.receiver.proofs.Laws.{Taken, by_decision, when_accepted, reply_small, time_taken, held_taken}
use Rattle.receiver.specs.Picture.{starts, picture_for, picture_begun, picture_held, picture_room}
use Rattle.receiver.specs.Step.{taken}
use Rattle.receiver.specs.Verdict.{fragment_of}
use Rattle.receiver.specs.declared.Received.{Received}
use Rattle.state.specs.Receiver.{header_of, held_fragments}
use Rattle.state.specs.WellFormed.{well_formed, WellFormed, known_well_formed, whole_told, held_within_room}
use Rattle.state.specs.declared.Receiver.{Receiver}
use Rattle.wire.specs.Field.{Bytes}
use Rattle.wire.specs.Readable.{read_packet, scan_long}
use Rattle.wire.specs.Reading.{scan_in}
use Rattle.wire.specs.declared.Packet.{Packet}
use Rattle.demands.proofs.Arrived.{leaves_all}
use Rattle.demands.proofs.History.{after_append, small_accepted}
use Rattle.demands.proofs.Reachable.{stays}
use Rattle.demands.specs.History.{State, step, after, answers}
use Rattle.demands.specs.Provenance.{InExactlyOne, StartsPicture, NoneStarts, ByteBrought, AsBrought}
use Rattle.demands.specs.Reachable.{Reached}

-- After these packets, which came to x: what is held was brought by them. A time stamp has 32 bits.
record Known (x : State) (packets : List (List ℕ)) (y : State) : Type 0 where
  time : y.receiver.time < 2 ^ 32
  held : (i : ℕ) → any (holds i) (held_fragments y.receiver) ≡ true → ByteBrought step x packets y i

-- ---- laws

-- one more that starts no picture
none_starts_more : (x : State) (packets : List (List ℕ)) (p : List ℕ) → NoneStarts step x packets → (StartsPicture step (after step x packets) p → ⊥) → NoneStarts step x (packets ++ (p ∷ []))
none_starts_more x [] p none not = (not, tt)
none_starts_more x (q ∷ packets) p none not = (none.0, none_starts_more (step x q).left packets p none.1 not)

module _ (x : State) (past : List (List ℕ)) (p : List ℕ) where
  abbrev y : State
  y = after step x past

  abbrev r : Receiver
  r = y.receiver

  abbrev area : List ℕ
  area = y.area

  abbrev z : State
  z = (step y p).left

  -- what was brought for the picture held is so still, where p starts none, and changes neither the picture nor the byte
  brought_before : (i : ℕ) → (StartsPicture step y p → ⊥) → z.receiver.time ≡ r.time → header_of z.receiver ≡ header_of r → get_or z.area i 0 ≡ get_or area i 0 → ByteBrought step x past y i → ByteBrought step x (past ++ (p ∷ [])) z i
  brought_before i not time header byte b = record {
    before = b.before;
    packet = b.packet;
    later = b.later ++ (p ∷ []);
    order = ap (λ (l : List (List ℕ)). l ++ (p ∷ [])) b.order ∙ append_assoc b.before (b.packet ∷ b.later) (p ∷ []);
    accepted = b.accepted;
    none_started_later = none_starts_more (step (after step x b.before) b.packet).left b.later p b.none_started_later (λ s. not (subst (λ (v : State). StartsPicture step v p) (sym then) s));
    brings = record { said = b.brings.said; read = b.brings.read; at = b.brings.at; in_its_data = b.brings.in_its_data; place = b.brings.place; byte = b.brings.byte ∙ sym byte };
    of_its_time = b.of_its_time ∙ sym time;
    of_its_header = b.of_its_header ∙ sym header;
  }
    where
      then : y ≡ after step (step (after step x b.before) b.packet).left b.later
      then = ap (after step x) b.order ∙ after_append step x b.before (b.packet ∷ b.later)

  -- p is taken
  module _ (t : Taken r area p) where
    abbrev s : Packet
    s = t.packet

    abbrev v : Receiver
    v = picture_for r s

    its_length : length (scan_in p s) ≡ s.scan.length
    its_length = scan_long r.source p s t.read

    -- its fragment goes among those of the picture that it is for, and its bytes to their places
    became : z.receiver ≡ taken v p s
    became = ap (λ (d : Received). d.receiver) (when_accepted r area p t.decided).0

    held_then : held_fragments z.receiver ≡ insert (fragment_of s) (held_fragments v)
    held_then = ap held_fragments became ∙ held_taken v p s

    picture_then : (z.receiver.time ≡ v.time) × (header_of z.receiver ≡ header_of v)
    unfolding taken
    picture_then = (ap (λ (u : Receiver). u.time) became, ap header_of became)

    byte_then : (i : ℕ) → get_or z.area i 0 ≡ cond (holds i (fragment_of s)) (get_or (scan_in p s) (i - s.offset) 0) (get_or area i 0)
    byte_then i =
        ap (λ (l : List ℕ). get_or l i 0) (when_accepted r area p t.decided).1
        ∙ get_or_put area s.offset (scan_in p s) (omega (arith, its_length, t.accepted.fits, t.lent, picture_room r s)) i
        ∙ rw its_length

    module _ (source : r.source ≡ x.receiver.source) (bytes : Bytes p) (k : Known x past y) where
      its_time : s.time < 2 ^ 32
      its_time = (read_packet r.source p s t.read bytes).time

      same_time : s.time ≡ v.time
      same_time = time_taken r area p t k.time its_time

      -- a place that it covers
      brought_now : (i : ℕ) → holds i (fragment_of s) ≡ true → ByteBrought step x (past ++ (p ∷ [])) z i
      brought_now i h =
          let b = held_at i (fragment_of s) h in
          record {
            before = past;
            packet = p;
            later = [];
            order = refl;
            accepted = small_accepted (step y p).answer (reply_small r area p t);
            none_started_later = tt;
            brings = record {
              said = s;
              read = rw source at t.read;
              at = i - s.offset;
              in_its_data = omega (arith, its_length);
              place = omega arith;
              byte = sym (byte_then i ∙ rw h);
            };
            of_its_time = same_time ∙ sym picture_then.0;
            of_its_header = sym t.accepted.like ∙ sym picture_then.1;
          }

      -- and one that was held: p goes on with the picture, for one that it begins holds nothing
      brought_earlier : (i : ℕ) → holds i (fragment_of s) ≡ false → any (holds i) (held_fragments v) ≡ true → ByteBrought step x (past ++ (p ∷ [])) z i
      brought_earlier i out h = split (starts r s)
          (λ new. absurd (never_both h (ap (λ (u : Receiver). any (holds i) (held_fragments u)) (picture_begun r s new))))
          (λ old. let same = picture_held r s old in
          brought_before i
          (λ b. let read : s ≡ b.said = cc (t.read, b.read) in never_both (rw read b.starts_one) old)
          (picture_then.0 ∙ ap (λ (u : Receiver). u.time) same)
          (picture_then.1 ∙ ap header_of same)
          (byte_then i ∙ rw out)
          (k.held i (ap (λ (u : Receiver). any (holds i) (held_fragments u)) (sym same) ∙ h)))

      known_taken : Known x (past ++ (p ∷ [])) z
      known_taken = record {
        time = omega (arith, picture_then, same_time, its_time);
        held = λ i h. split (holds i (fragment_of s))
            (λ in-it. brought_now i in-it)
            (λ out. brought_earlier i out (rw out at (sym (any_insert (fragment_of s) (holds i) (held_fragments v)) ∙ ap (any (holds i)) (sym held_then) ∙ h)));
      }

  one_more : r.source ≡ x.receiver.source → Bytes p → Known x past y → Known x (past ++ (p ∷ [])) z
  one_more source bytes k = by_decision r area p
      (λ n l d.
      let none = leaves_all r area p d in
      let same = none.1 in
      record {
        time = subst (λ (u : State). u.receiver.time < 2 ^ 32) (sym same) k.time;
        held = λ i h. brought_before i (λ b. none.0 b.accepted) (ap (λ (u : State). u.receiver.time) same) (ap (λ (u : State). header_of u.receiver) same) (ap (λ (u : State). get_or u.area i 0) same)
            (k.held i (ap (λ (u : State). any (holds i) (held_fragments u.receiver)) (sym same) ∙ h));
      })
      (λ t. known_taken t source bytes k)

-- and any number of packets more
any_more : (x : State) (past packets : List (List ℕ)) → well_formed x.receiver ≡ true → length x.area ≡ x.receiver.room → Each Bytes past → Each Bytes packets → Known x past (after step x past) → Known x (past ++ packets) (after step x (past ++ packets))
any_more x past [] well long a b k = subst (λ (l : List (List ℕ)). Known x l (after step x l)) (sym (append-nil past)) k
any_more x past (p ∷ packets) well long a b k =
    let then = one_more x past p (stays x past well long a).source_stays b.0 k in
    subst (λ (l : List (List ℕ)). Known x l (after step x l)) (append_assoc past (p ∷ []) packets)
    (any_more x (past ++ (p ∷ [])) packets well long (each_append Bytes past (p ∷ []) a (b.0, tt)) b.1
    (subst (Known x (past ++ (p ∷ []))) (sym (after_append step x past (p ∷ []))) then))

-- of fragments in order, a place that is held lies in exactly one
module _ (i : ℕ) where
  exactly_one : (at : ℕ) (fs : List Fragment) → InOrder at fs → any (holds i) fs ≡ true → InExactlyOne i fs
  exactly_one at [] o h = absurd (never_both h refl)
  exactly_one at (f ∷ fs) o h = split (holds i f)
      (λ e. record { index = 0; among_them = omega arith; lies_in = e; no_other = first e })
      (λ e. let rest = exactly_one (stop f) fs o.2 (rw e at h) in
      record { index = suc rest.index; among_them = omega (arith, rest.among_them); lies_in = rest.lies_in; no_other = later e rest })
    where
      first : holds i f ≡ true → (k : ℕ) → k < length (f ∷ fs) → holds i (fragment_at (f ∷ fs) k) ≡ true → k ≡ 0
      first e zero b g = refl
      first e (suc k) b g = absurd (omega (arith, held_at i f e, held_at i (fragment_at fs k) g, each_at (λ (h : Fragment). stop f ≤ h.offset) fs k nothing (in_order_from (stop f) fs o.2) (omega arith)))

      later : holds i f ≡ false → (rest : InExactlyOne i fs) (k : ℕ) → k < length (f ∷ fs) → holds i (fragment_at (f ∷ fs) k) ≡ true → k ≡ suc rest.index
      later e rest zero b g = absurd (never_both g e)
      later e rest (suc k) b g = ap suc (rest.no_other k (omega arith) g)

-- So a picture that is whole, after packets that came to a well-formed receiver that held nothing, is as brought.
pub as_brought : (x : State) (packets : List (List ℕ)) → well_formed x.receiver ≡ true → length x.area ≡ x.receiver.room → x.receiver.time < 2 ^ 32 → held_fragments x.receiver ≡ [] → Each Bytes packets
    → (after step x packets).receiver.whole ≡ 1 → AsBrought step x packets (after step x packets)
as_brought x packets well long small none bytes is =
    record {
      end_known = rw w.end t.known;
      in_the_area = omega (arith, w.end, t.sum, held_within_room w, reached.as_long_as_the_room, reached.room_stays);
      no_gap = λ i h. exactly_one i 0 fs w.placed.order (held i h);
      each_byte = λ i h. (any_more x [] packets well long tt bytes nothing_held).held i (held i h);
    }
  where
    left : State
    left = after step x packets

    reached : Reached x.receiver.source x.receiver.room (answers step x packets) left
    reached = stays x packets well long bytes

    w : WellFormed left.receiver
    w = known_well_formed left.receiver reached.formed

    fs : List Fragment
    fs = held_fragments left.receiver

    t : Whole fs
    t = is_whole fs (sym (whole_told w) ∙ rw is)

    held : (i : ℕ) → i < left.receiver.end → any (holds i) fs ≡ true
    held i h = no_gap 0 (end_of fs) i fs w.placed.order (ended 0 fs w.placed.order w.placed.marked t.known) (omega (arith, t.sum)) (omega arith) (rw w.end at h)

    nothing_held : Known x [] x
    nothing_held = record { time = small; held = λ i h. absurd (never_both h (ap (any (holds i)) none)) }
