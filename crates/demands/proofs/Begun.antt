-- What becomes of the pictures that a run begins: as many are begun as become whole, are given up, or are held unfinished at the end.
-- Assumes nothing.
use Rattle.std.proofs.Common.{inl, inr, ◌∙◌, arith, eqb-true, sym, ap}
use Rattle.std.specs.Prelude.{ℕ, ◌+◌, Bool, true, false, not, ◌≡◌, refl, eqb, List, [], ◌∷◌}
use Rattle.fragments.specs.Held.{whole}
use Rattle.laws.specs.Truth.{split, never_both, and_true, and_false, or_none, same}
use Rattle.receiver.proofs.Laws.{Taken, by_decision, when_accepted, reply_small, reply_taken, taken_when, held_taken}
use Rattle.receiver.specs.Picture.{starts, picture_for, picture_held}
use Rattle.receiver.specs.Step.{received, taken}
use Rattle.receiver.specs.Time.{is_newer}
use Rattle.receiver.specs.declared.Received.{Received}
use Rattle.replies.specs.Reply
use Rattle.state.specs.Receiver.{fresh, header_of, held_fragments}
use Rattle.state.specs.WellFormed.{flag, picture_right, well_formed, known_well_formed}
use Rattle.state.specs.declared.Receiver.{Receiver}
use Rattle.tally.specs.Counts.{Call, how_many, is_accepted, one_more, each_reply, all_given_up}
use Rattle.tally.specs.Tally.{is_unfinished, none, closed}
use Rattle.wire.specs.Lawful.{is_lawful}
use Rattle.wire.specs.declared.Packet.{Packet}
use Rattle.demands.proofs.Arrived.{leaves_all}
use Rattle.demands.proofs.GivenUp.{time_then, newer_time, another_gives_up}
use Rattle.demands.proofs.History.{accepted_small, small_accepted}
use Rattle.demands.specs.Begun.{call, calls_of, begins, makes_whole, gives_one_up, BeginningsStart, StartsBegin, BegunWholeOrGivenUp, TallyOfAllBegun}
use Rattle.demands.specs.Delivery.{LeavesAll}
use Rattle.demands.specs.History.{State, state, Accepted, step, after}
use Rattle.demands.specs.Provenance.{StartsPicture}

-- Of one call: what was held unfinished before it, and what it begins, is with it whole, given up, or held unfinished.
abbrev Balances : Call → Type 0
Balances c = flag (is_unfinished c.before) + flag (begins c) ≡ flag (makes_whole c) + flag (gives_one_up c) + flag (is_unfinished c.after)

-- ---- laws

-- accepted, by the test
module _ (c : Call) where
  accepted_told : Accepted c.answer → is_accepted c ≡ true
  accepted_told (inl e) = rw e
  accepted_told (inr e) = rw e

  told_accepted : is_accepted c ≡ true → Accepted c.answer
  told_accepted e = split (eqb c.answer.reply Reply.held)
      (λ h. inl (eqb-true c.answer.reply Reply.held h))
      (λ h. inr (eqb-true c.answer.reply Reply.whole (rw h at e)))

one_of : (b : Bool) → flag b + flag (not b) ≡ 1
one_of true = refl
one_of false = refl

-- a well-formed receiver that holds a picture says so with a 1
flag_held : (r : Receiver) → well_formed r ≡ true → eqb r.picture 0 ≡ false → eqb r.picture 1 ≡ true
unfolding picture_right
flag_held r w some = (and_true (eqb r.picture 1) (is_lawful (header_of r)) (rw some at (known_well_formed r w).picture)).0

module _ (r : Receiver) (area p : List ℕ) where
  abbrev c : Call
  c = call (state r area) p

  abbrev left : Receiver
  left = (received r area p).receiver

  -- p is taken
  module _ (t : Taken r area p) where
    abbrev s : Packet
    s = t.packet

    accepted_then : is_accepted c ≡ true
    accepted_then = accepted_told c (small_accepted c.answer (reply_small r area p t))

    -- a picture is held then, unfinished where the reply is not whole
    became : left ≡ taken (picture_for r s) p s
    became = ap (λ (d : Received). d.receiver) (when_accepted r area p t.decided).0

    picture_then : left.picture ≡ 1
    unfolding taken
    picture_then = ap (λ (v : Receiver). v.picture) became

    whole_then : left.whole ≡ c.answer.reply
    unfolding taken
    whole_then =
        ap (λ (v : Receiver). v.whole) became
        ∙ ap (λ (l : List _). flag (whole l)) (sym (ap held_fragments became ∙ held_taken (picture_for r s) p s))
        ∙ sym (reply_taken r area p t)

    unfinished_then : is_unfinished left ≡ not (makes_whole c)
    unfinished_then = rw (picture_then, whole_then)

    -- it goes on with the picture held, and leaves its time stamp; that picture is unfinished, for a whole one takes no packet more
    module _ (old : starts r s ≡ false) where
      some_held : eqb r.picture 0 ≡ false
      some_held = (or_none (eqb r.picture 0) (is_newer s.time r.time) old).0

      same_time : not (eqb r.time left.time) ≡ false
      same_time = same r.time left.time (sym (time_then r area p t ∙ ap (λ (v : Receiver). v.time) (picture_held r s old)))

      begins_none : begins c ≡ false
      begins_none = rw (some_held, same_time) (and_false (is_accepted c))

      gives_none_up : gives_one_up c ≡ false
      gives_none_up = rw same_time (and_false (is_unfinished r))

      unfinished_before : is_unfinished r ≡ true
      unfinished_before = rw (flag_held r t.formed some_held, ap (λ (v : Receiver). eqb v.whole 1) (sym (picture_held r s old)) ∙ t.accepted.not_whole)

    -- it starts another, which gives up one that is unfinished
    module _ (new : starts r s ≡ true) where
      starts_picture : StartsPicture step (state r area) p
      starts_picture = record { accepted = told_accepted c accepted_then; said = s; read = t.read; starts_one = new }

      begins_one : begins c ≡ true
      begins_one = rw accepted_then (split (eqb r.picture 0) (λ no. rw no) (λ some. rw (some, newer_time r area p t new (rw some at new))))

      gives_up_unfinished : gives_one_up c ≡ is_unfinished r
      gives_up_unfinished = split (is_unfinished r) (λ u. another_gives_up r area p u starts_picture ∙ sym u) (λ u. rw u)

    one_taken : Balances c
    one_taken = split (starts r s)
        (λ new. rw (begins_one new, unfinished_then, gives_up_unfinished new) (omega (arith, one_of (makes_whole c))))
        (λ old. rw (begins_none old, unfinished_then, gives_none_up old, unfinished_before old) (omega (arith, one_of (makes_whole c))))

  -- p leaves all as it is
  one_left : LeavesAll step (state r area) p → Balances c
  one_left none =
      let stays : left ≡ r = ap (λ (x : State). x.receiver) none.1 in
      let refused : is_accepted c ≡ false = split (is_accepted c) (λ e. absurd (none.0 (told_accepted c e))) (λ e. e) in
      let not_whole = (or_none (eqb c.answer.reply Reply.held) (makes_whole c) refused).1 in
      let unfinished : is_unfinished left ≡ is_unfinished r = ap is_unfinished stays in
      let same_time = same r.time left.time (ap (λ (v : Receiver). v.time) (sym stays)) in
      let kept : gives_one_up c ≡ false = rw same_time (and_false (is_unfinished r)) in
      rw (refused, not_whole, kept, unfinished) (omega arith)

  -- the test is passed by the packets that start a picture, and by no others
  pub begins_starts : BeginningsStart r area p
  begins_starts e =
      let t = taken_when r area p (accepted_small c.answer (told_accepted c (and_true (is_accepted c) _ e).0)) in
      split (starts r t.packet) (starts_picture t) (λ old. absurd (never_both e (begins_none t old)))

  pub starts_begins : StartsBegin r area p
  starts_begins b =
      let t = taken_when r area p (accepted_small c.answer b.accepted) in
      let read : b.said ≡ t.packet = cc (t.read, b.read) in
      begins_one t (rw read at b.starts_one)

  -- every call of the receiver balances
  one_call : Balances c
  one_call = by_decision r area p (λ n l d. one_left (leaves_all r area p d)) one_taken

-- and so it is with any calls, one after the other, from any state on
any_calls : (x : State) (packets : List (List ℕ)) → flag (is_unfinished x.receiver) + how_many begins (calls_of x packets) ≡ how_many makes_whole (calls_of x packets) + how_many gives_one_up (calls_of x packets) + flag (is_unfinished (after step x packets).receiver)
any_calls x [] = omega arith
any_calls x (p ∷ packets) = rw (one_more (begins (call x p)), one_more (makes_whole (call x p)), one_more (gives_one_up (call x p))) (omega (arith, one_call x.receiver x.area p, any_calls (step x p).left packets))

module _ (source room : ℕ) (area : List ℕ) (packets : List (List ℕ)) where
  abbrev calls : List Call
  calls = calls_of (state (fresh source room) area) packets

  abbrev last : Receiver
  last = (after step (state (fresh source room) area) packets).receiver

  -- From open on, after any packets: as many pictures were begun as became whole, were given up, or are held unfinished.
  pub begun_whole_or_given_up : BegunWholeOrGivenUp source room area packets
  begun_whole_or_given_up = omega (arith, any_calls (state (fresh source room) area) packets)

  -- So the two counts of a tally that is closed, of the replies whole and of the pictures given up, come to all that were begun.
  pub tally_of_all_begun : TallyOfAllBegun source room area packets
  unfolding closed
  tally_of_all_begun = rw (all_given_up calls last, each_reply calls Reply.whole (omega arith)) (omega (arith, any_calls (state (fresh source room) area) packets))
