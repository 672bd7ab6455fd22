-- What holds of every step. Assumes nothing.
use Rattle.std.specs.Prelude.{◌≡◌, ℕ, ◌^◌, ◌<◌, ◌≤◌, Bool, true, false, List, [], ◌∷◌, length, ◌==◌, ◌≢◌, nat_le, Ok, Err}
use Rattle.std.proofs.Math.Path.{refl, ap}
use Rattle.std.proofs.Common.{sym, ◌∙◌, arith}
use borrow.Author.Tests.{leb-true, eqb-true, eqb-false, eq-eqb, ne_eqb}
use Rattle.fragments.specs.Array.{held_padded, unused_padded}
use Rattle.fragments.specs.Clash.{is_marked, clashes, in_place_insert, start_insert}
use Rattle.fragments.specs.Held.{total, end_of, whole, Whole, is_whole, is_reached}
use Rattle.fragments.specs.Insertion.{insert, length_insert}
use Rattle.laws.specs.Put.{put, length_put}
use Rattle.laws.specs.Truth.{split, never_both, and_false, or_none}
use Rattle.laws.specs.Within.{within, is_under}
use Rattle.replies.specs.Checks.{Judged, judged, ◌when◌, neither, neither_9_nor_8, numbered, refused_by}
use Rattle.replies.specs.Refusal.{number}
use Rattle.replies.specs.Reply
use Rattle.replies.specs.declared.Refusal.{Refusal}
use Rattle.state.specs.Receiver.{held_fragments, header_of}
use Rattle.state.specs.WellFormed.{flag, well_formed, WellFormed, known_well_formed, is_well_formed, start_held, one_held}
use Rattle.state.specs.declared.Receiver.{Receiver}
use Rattle.wire.specs.Field.{Bytes}
use Rattle.wire.specs.Lawful.{is_lawful, lawful_told}
use Rattle.wire.specs.Readable.{Readable, read_packet, read_refused, scan_long}
use Rattle.wire.specs.Reading.{Reading, reading, scan_in, checks as readChecks}
use Rattle.wire.specs.declared.Header.{Header}
use Rattle.wire.specs.declared.Packet.{Packet}
use Rattle.receiver.specs.FirstPacket.{is_bare, kept_after_well, tables_after_right}
use Rattle.receiver.specs.Picture.{starts, picture_for, picture_begun, picture_held, picture_source, picture_room, picture_well_formed}
use Rattle.receiver.specs.Step.Decision.{leave, accept}
use Rattle.receiver.specs.Step.{Receives, decision, ruled, judged_read, taken, held, answering, took_in, received, area_after}
use Rattle.receiver.specs.Time.{is_newer, not_behind, behind_else}
use Rattle.receiver.specs.Verdict.{fragment_of, is_beyond, checks, verdict, Accepted, accepted, like_itself}
use Rattle.receiver.specs.declared.Received.{Received}

-- Why a call leaves all as it is, and with which reply: 9, 8, the reader's, or the verdict on what was read.
pub data Left (r : Receiver) (area p : List ℕ) (n : ℕ) : Type 0 where
  ill_formed : well_formed r ≡ false → n ≡ Reply.not_well_formed → Left r area p n
  other_area : (length area ≢ r.room) → n ≡ Reply.area_not_room → Left r area p n
  unread : (why : Refusal) → reading r.source p ≡ Err why → n ≡ number why → Left r area p n
  ruled_out : (s : Packet) (why : Refusal) → reading r.source p ≡ Ok s → verdict r area p s ≡ Err why → n ≡ number why → Left r area p n

-- A packet that is taken, and what is known of it.
pub record Taken (r : Receiver) (area p : List ℕ) : Type 0 where
  pub packet : Packet
  pub formed : well_formed r ≡ true
  pub lent : length area ≡ r.room
  pub read : reading r.source p ≡ Ok packet
  pub accepted : Accepted (picture_for r packet) packet
  pub decided : decision r area p ≡ accept packet

module _ (r : Receiver) where
  -- what is held, by whether the receiver is well formed
  pub held_formed : well_formed r ≡ true → held r ≡ total (held_fragments r)
  unfolding held
  held_formed w = rw w

  pub held_else : well_formed r ≡ false → held r ≡ 0
  unfolding held
  held_else w = rw w

module _ (r : Receiver) (area p : List ℕ) where
  -- a call leaves all as it is, or takes its packet
  pub by_decision : {P : Type 0} → ((n : ℕ) → Left r area p n → decision r area p ≡ leave n → P) → (Taken r area p → P) → P
  unfolding decision
  by_decision {P} leaves takes = split (well_formed r)
      (λ w. split (length area == r.room)
      (λ l. by_reading w l (reading r.source p) refl)
      (λ l. leaves Reply.area_not_room (other_area (eqb-false (length area) r.room l) refl) (rw (w, l))))
      (λ w. leaves Reply.not_well_formed (ill_formed w refl) (rw w))
    where
      by_verdict : well_formed r ≡ true → (length area == r.room) ≡ true → (s : Packet) → reading r.source p ≡ Ok s → (j : Judged) → verdict r area p s ≡ j → P
      by_verdict w l s e (Ok passed) v = takes (record {
        packet = s;
        formed = w;
        lent = eqb-true (length area) r.room l;
        read = e;
        accepted = accepted (picture_for r s) area p s v;
        decided = rw (w, l, e, v);
      })
      by_verdict w l s e (Err why) v = leaves (number why) (ruled_out s why e v refl) (rw (w, l, e, v))

      by_reading : well_formed r ≡ true → (length area == r.room) ≡ true → (a : Reading) → reading r.source p ≡ a → P
      by_reading w l (Err why) e = leaves (number why) (unread why e refl) (rw (w, l, e))
      by_reading w l (Ok s) e = by_verdict w l s e (verdict r area p s) refl

  -- a test that 9 and 8 pass where they are given, and each number of the reader's and of the verdict's, is passed by the reply
  pub left_by : (test : ℕ → Bool) {n : ℕ} → (well_formed r ≡ false → test Reply.not_well_formed ≡ true) → ((length area ≢ r.room) → test Reply.area_not_room ≡ true) → numbered test (readChecks r.source p) ≡ true → ((s : Packet) → numbered test (checks (picture_for r s) area p s) ≡ true) → Left r area p n → test n ≡ true
  left_by test formed room read ruled (ill_formed w e) = rw e (formed w)
  left_by test formed room read ruled (other_area l e) = rw e (room l)
  left_by test formed room read ruled (unread why e n) = rw n (read_refused r.source p test read e)
  left_by test formed room read ruled (ruled_out s why e v n) = rw n (refused_by test (checks (picture_for r s) area p s) (ruled s) v)

  left_number : {n : ℕ} → Left r area p n → 2 ≤ n
  left_number {n} l = leb-true 2 n (left_by (nat_le 2) (λ w. refl) (λ o. refl) refl (λ s. refl) l)

  -- what is decided, one check after the other
  pub other_room : well_formed r ≡ true → (length area ≢ r.room) → decision r area p ≡ leave Reply.area_not_room
  unfolding decision
  other_room w h = rw (w, ne_eqb (length area) r.room h)

  pub read_first : well_formed r ≡ true → length area ≡ r.room → decision r area p ≡ judged_read r area p (reading r.source p)
  unfolding decision
  read_first w e = rw (w, eq-eqb (length area) r.room e)

  -- what was read is judged on the picture that it is for
  pub judged_on : {s : Packet} {v : Receiver} → well_formed r ≡ true → length area ≡ r.room → reading r.source p ≡ Ok s → picture_for r s ≡ v → decision r area p ≡ ruled (judged (checks v area p s)) s
  judged_on {s} w l e same = read_first w l ∙ ap (judged_read r area p) e ∙ ap (λ (v : Receiver). ruled (judged (checks v area p s)) s) same

  pub when_left : {n : ℕ} → decision r area p ≡ leave n → (received r area p ≡ answering n (held r) r) × (area_after r area p ≡ area)
  unfolding received area_after
  when_left d = rw d (refl, refl)

  pub when_accepted : {s : Packet} → decision r area p ≡ accept s → (received r area p ≡ took_in (taken (picture_for r s) p s)) × (area_after r area p ≡ put area s.offset (scan_in p s))
  unfolding received area_after
  when_accepted d = rw d (refl, refl)

  -- the reply to a packet that is taken tells whether the picture is whole with it
  pub reply_taken : Taken r area p → (received r area p).answer.reply ≡ flag (whole (held_fragments (received r area p).receiver))
  unfolding received
  reply_taken t = rw t.decided

  -- so it is 0 or 1, and nothing else gets these
  pub reply_small : Taken r area p → (received r area p).answer.reply < 2
  reply_small t = rw (reply_taken t) (small (whole (held_fragments (received r area p).receiver)))
    where
      small : (b : Bool) → flag b < 2
      small true = omega arith
      small false = omega arith

  pub taken_when : (received r area p).answer.reply < 2 → Taken r area p
  unfolding received
  taken_when h = by_decision (λ n l d. absurd (omega (arith, left_number l, rw d at h))) (λ t. t)

  -- with any other reply the receiver that came is given back
  pub receiver_stays : {d : Received} {after : List ℕ} → Receives r area p d after → 2 ≤ d.answer.reply → d.receiver ≡ r
  receiver_stays s large = by_decision (λ n l d. rw (s.answer ∙ (when_left d).0)) (λ t. absurd (omega (arith, rw s.answer at large, reply_small t)))

  -- a packet that is taken has the time stamp of the picture that it is for
  pub time_taken : (t : Taken r area p) → r.time < 2 ^ 32 → t.packet.time < 2 ^ 32 → t.packet.time ≡ (picture_for r t.packet).time
  time_taken t small small' = let s = t.packet in split (starts r s)
      (λ new. rw (picture_begun r s new))
      (λ old. rw (picture_held r s old) (split (s.time == r.time)
      (λ e. eqb-true s.time r.time e)
      (λ e. absurd (never_both
      (behind_else s.time r.time small' small (eqb-false s.time r.time e) (or_none (r.picture == 0) (is_newer s.time r.time) old).1)
      (rw (picture_held r s old) at t.accepted.in_time)))))

  -- the reply carries the sum of the held lengths afterwards, and 0 where the receiver is not well formed
  pub held_sum : well_formed r ≡ true → (received r area p).answer.held ≡ total (held_fragments (received r area p).receiver)
  unfolding received held
  held_sum w = by_decision (λ n l d. rw (d, w)) (λ t. rw t.decided)

  pub answers_9 : well_formed r ≡ false → received r area p ≡ answering Reply.not_well_formed 0 r
  unfolding received decision held
  answers_9 w = rw (w, w)

  -- 1 means whole, and 0 not yet
  pub told_whole : (received r area p).answer.reply ≡ Reply.whole → Whole (held_fragments (received r area p).receiver)
  told_whole e =
      let fs = held_fragments (received r area p).receiver in
      split (whole fs) (λ w. is_whole fs w) (λ w. absurd (omega (arith, rw w at (reply_taken (taken_when (omega arith))))))

  pub whole_told : Taken r area p → Whole (held_fragments (received r area p).receiver) → (received r area p).answer.reply ≡ Reply.whole
  whole_told t w =
      let fs = held_fragments (received r area p).receiver in
      reply_taken t ∙ rw (is_reached (end_of fs) (total fs) (λ z. omega arith) w.sum)

  pub told_held : (received r area p).answer.reply ≡ Reply.held → Whole (held_fragments (received r area p).receiver) → ⊥
  told_held e w = omega (arith, whole_told (taken_when (omega arith)) w)

-- Of a packet that starts a picture, 23, 2, 25 and 26 cannot arise.
pub starting : (r : Receiver) (area p : List ℕ) (s : Packet) → starts r s ≡ true → verdict r area p s ≡ judged (Refusal.Beyond when is_beyond r s ∷ Refusal.Bare when is_bare r.kept s ∷ [])
unfolding judged clashes
starting r area p s e =
    rw (picture_begun r s e, not_behind s.time, like_itself s.header, and_false (is_marked (fragment_of s)))
    (split (is_beyond r s) (λ b. rw b) (λ b. rw b))

-- what an accepted packet brings goes among the fragments, and the picture stays well formed with it
module _ (r : Receiver) (p : List ℕ) (s : Packet) where
  pub held_taken : held_fragments (taken r p s) ≡ insert (fragment_of s) (held_fragments r)
  unfolding taken
  held_taken = held_padded (insert (fragment_of s) (held_fragments r))

  taken_well_formed : WellFormed r → Readable p s → Accepted r s → WellFormed (taken r p s)
  unfolding taken
  taken_well_formed w read a =
      let f = fragment_of s in
      let fs = held_fragments r in
      let after = insert f fs in
      record {
        room = w.room;
        count = rw (length_insert f fs) a.few;
        placed = rw (held_padded after) (in_place_insert r.room f fs w.placed a.clear read.scan read.marker a.fits);
        unused = unused_padded after;
        picture = one_held r.time (length after) (header_of r) ∙ (ap is_lawful a.like ∙ lawful_told s.header read.header);
        end = rw (held_padded after);
        tables = rw (held_padded after, start_insert f fs read.scan, q) (tables_after_right p s read r.kept w.kept a.supplied (start_held fs) r.tables (rw q at w.tables));
        kept = kept_after_well p s read r.kept w.kept;
        whole = rw (held_padded after);
      }
    where
      q : r.q ≡ s.header.q
      q = ap (λ (h : Header). h.q) a.like

module _ (r : Receiver) (area p : List ℕ) where
  pub keeps_well_formed : Bytes p → well_formed r ≡ true → well_formed (received r area p).receiver ≡ true
  unfolding received
  keeps_well_formed bytes w = by_decision r area p
      (λ n l d. rw d w)
      (λ t. let s = t.packet in
      let read = read_packet r.source p s t.read bytes in
      let v = picture_for r s in
      rw t.decided (is_well_formed (taken v p s) (taken_well_formed v p s (known_well_formed v (picture_well_formed r s w read.header)) read t.accepted)))

  -- with the reply whole, the flag says so too
  pub whole_flagged : Bytes p → well_formed r ≡ true → (received r area p).answer.reply ≡ Reply.whole → (received r area p).receiver.whole ≡ 1
  whole_flagged bytes w e =
      (known_well_formed (received r area p).receiver (keeps_well_formed bytes w)).whole
      ∙ sym (reply_taken r area p (taken_when r area p (omega arith)))
      ∙ e

  pub area_long : length (area_after r area p) ≡ length area
  unfolding area_after
  area_long = by_decision r area p
      (λ n l d. rw d)
      (λ t. let s = t.packet in
      rw t.decided (length_put area s.offset (scan_in p s) (omega (arith, t.accepted.fits, t.lent, picture_room r s, scan_long r.source p s t.read))))

-- source and room stay, and so the area is as long as the room in the next call, too
module _ (r : Receiver) (area p : List ℕ) where
  pub source_stays : (received r area p).receiver.source ≡ r.source
  unfolding received taken
  source_stays = by_decision r area p (λ n l d. rw d) (λ t. rw t.decided (picture_source r t.packet))

  pub room_stays : (received r area p).receiver.room ≡ r.room
  unfolding received taken
  room_stays = by_decision r area p (λ n l d. rw d) (λ t. rw t.decided (picture_room r t.packet))

  -- 9 and 8 are answered to nothing else
  module _ (w : well_formed r ≡ true) (long : length area ≡ r.room) where
    other : neither (received r area p).answer.reply ≡ true
    unfolding received within
    other = by_decision r area p
        (λ n l d. rw d (left_by r area p neither (λ f. absurd (never_both w f)) (λ o. absurd (o long)) refl (λ s. refl) l))
        (λ t. rw (is_under 8 9 (received r area p).answer.reply (omega (arith, reply_small r area p t))))

    pub replied : ((received r area p).answer.reply ≢ Reply.not_well_formed) × ((received r area p).answer.reply ≢ Reply.area_not_room)
    replied = neither_9_nor_8 other
