-- The receiver's step: what a packet makes of a receiver and of the area that is lent with it. Assumes nothing.
use Rattle.std.specs.Prelude.{◌≡◌, ℕ, cond, not, List, length, ◌==◌, Ok, Err}
use Rattle.fragments.specs.Array.{padded}
use Rattle.fragments.specs.Held.{total, end_of, whole}
use Rattle.fragments.specs.Insertion.{insert}
use Rattle.fragments.specs.declared.Fragment.{Fragment}
use Rattle.kept.specs.declared.Kept.{Kept}
use Rattle.laws.specs.Put.{put}
use Rattle.replies.specs.Reply
use Rattle.replies.specs.Checks.{Judged}
use Rattle.replies.specs.Refusal.{number}
use Rattle.state.specs.Receiver.{held_fragments}
use Rattle.state.specs.WellFormed.{flag, well_formed}
use Rattle.state.specs.declared.Receiver.{Receiver}
use Rattle.wire.specs.Reading.{Reading, reading, scan_in}
use Rattle.wire.specs.declared.Packet.{Packet}
use Rattle.receiver.specs.FirstPacket.{tables_after, kept_after}
use Rattle.receiver.specs.Picture.{picture_for}
use Rattle.receiver.specs.Verdict.{fragment_of, verdict}
use Rattle.receiver.specs.declared.Received.{Received}

-- What a call decides: to leave all as it is and answer a reply, or to accept what the packet says.
pub data Decision : Type 0 where
  leave : ℕ → Decision
  accept : Packet → Decision

-- What the checks came to.
abbrev pub ruled : Judged → Packet → Decision
ruled (Ok passed) s = accept s
ruled (Err why) s = leave (number why)

-- The reader's refusal, or the verdict on what was read.
abbrev pub judged_read : Receiver → List ℕ → List ℕ → Reading → Decision
judged_read r area p (Err why) = leave (number why)
judged_read r area p (Ok s) = ruled (verdict r area p s) s

-- 9, 8, the reader's, and then the verdict on what was read.
unfoldable pub decision : Receiver → List ℕ → List ℕ → Decision
decision r area p =
    cond (not (well_formed r)) (leave Reply.not_well_formed)
    (cond (not (length area == r.room)) (leave Reply.area_not_room)
    (judged_read r area p (reading r.source p)))

-- A receiver that holds these fragments of its picture and these tables, with this store.
abbrev pub holding : Receiver → List Fragment → List ℕ → Kept → Receiver
holding r fs tables kept = record {
  source = r.source;
  room = r.room;
  picture = 1;
  time = r.time;
  kind = r.kind;
  q = r.q;
  width = r.width;
  height = r.height;
  interval = r.interval;
  end = end_of fs;
  whole = flag (whole fs);
  fragment_count = length fs;
  fragments = padded fs;
  tables = tables;
  kept = kept;
}

-- The receiver with what an accepted packet brings: its fragment at its place, and its tables.
unfoldable pub taken : Receiver → List ℕ → Packet → Receiver
taken r p s = holding r (insert (fragment_of s) (held_fragments r)) (tables_after r.tables r.kept p s) (kept_after r.kept p s)

-- The scan bytes that a receiver holds: the sum of the held lengths, and 0 of one that is not well formed.
unfoldable pub held : Receiver → ℕ
held r = cond (well_formed r) (total (held_fragments r)) 0

-- What a call gives back: a reply, a count of scan bytes, and a receiver.
abbrev pub answering : ℕ → ℕ → Receiver → Received
answering reply n r = record { answer = record { reply = reply; held = n }; receiver = r }

-- With an accepted packet: 1 where the picture is whole then, 0 where it is not yet.
abbrev pub took_in : Receiver → Received
took_in r = answering (cond (whole (held_fragments r)) Reply.whole Reply.held) (total (held_fragments r)) r

-- A call that leaves all as it is gives back the receiver that came.
abbrev pub received_by : Decision → Receiver → List ℕ → Received
received_by (leave n) r p = answering n (held r) r
received_by (accept s) r p = took_in (taken (picture_for r s) p s)

-- An accepted packet writes its data at its offset, and nothing elsewhere in the area.
abbrev pub area_by : Decision → List ℕ → List ℕ → List ℕ
area_by (leave n) area p = area
area_by (accept s) area p = put area s.offset (scan_in p s)

unfoldable pub received : Receiver → List ℕ → List ℕ → Received
received r area p = received_by (decision r area p) r p

unfoldable pub area_after : Receiver → List ℕ → List ℕ → List ℕ
area_after r area p = area_by (decision r area p) area p

-- The outcome of `receive`: what it answers, the next receiver, and the area afterwards.
pub record Receives (r : Receiver) (area p : List ℕ) (d : Received) (after : List ℕ) : Type 0 where
  pub answer : d ≡ received r area p
  pub lent : after ≡ area_after r area p
