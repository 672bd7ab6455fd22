-- What holds after every history. Assumes nothing.
use Rattle.std.proofs.Common.{sym, ap, ◌∙◌}
use Rattle.std.specs.Prelude.{ℕ, true, List, [], ◌∷◌, ◌++◌, ◌≡◌, refl, length}
use Rattle.builder.specs.Built.{replied as built-replied}
use Rattle.laws.specs.Each.{Each, each_append}
use Rattle.laws.specs.Within.{Between}
use Rattle.receiver.proofs.Laws.{keeps_well_formed, area_long, source_stays, room_stays, replied}
use Rattle.receiver.specs.Step.{Receives}
use Rattle.state.specs.Opening.{opens, opened_room, fresh_well_formed}
use Rattle.state.specs.Receiver.{fresh}
use Rattle.state.specs.WellFormed.{well_formed}
use Rattle.state.specs.declared.Answer.{Answer}
use Rattle.state.specs.declared.Opened.{Opened}
use Rattle.wire.specs.Field.{Bytes}
use Rattle.demands.proofs.History.{calls_step, calls_append}
use Rattle.demands.specs.History.{State, state, History, step, after, answers}
use Rattle.demands.specs.Reachable.{Reached, HistoriesAreSteps, HistoriesReach, BuilderRefusesNeither}

-- From any well-formed receiver with an area as long as its room, opened just now or not.
pub stays : (x : State) (packets : List (List ℕ)) → well_formed x.receiver ≡ true → length x.area ≡ x.receiver.room → Each Bytes packets → Reached x.receiver.source x.receiver.room (answers step x packets) (after step x packets)
stays x [] well long bytes = record { source_stays = refl; room_stays = refl; formed = well; as_long_as_the_room = long; never_9 = tt; never_8 = tt }
stays x (p ∷ packets) well long bytes =
    let r = x.receiver in
    let source = source_stays r x.area p in
    let room = room_stays r x.area p in
    let lent = area_long r x.area p ∙ long in
    let rest = stays (step x p).left packets (keeps_well_formed r x.area p bytes.0 well) (rw room lent) bytes.1 in
    let other = replied r x.area p well long in
    record {
      source_stays = rest.source_stays ∙ source;
      room_stays = rest.room_stays ∙ room;
      formed = rest.formed;
      as_long_as_the_room = rest.as_long_as_the_room ∙ room;
      never_9 = (other.0, rest.never_9);
      never_8 = (other.1, rest.never_8);
    }

-- A history is what the step makes of its packets, from the fresh receiver of its source and room on.
module _ {source room : ℕ} {packets : List (List ℕ)} {answered : List Answer} {x : State} (h : History source room packets answered x) where
  pub its_room : Between 1 65536 room
  its_room = opened_room source room (sym (ap (λ (o : Opened). o.answer.reply) h.opens) ∙ h.with_reply_0)

  pub its_steps : HistoriesAreSteps h
  its_steps =
      let new : h.opened.receiver ≡ fresh source room = ap (λ (o : Opened). o.receiver) (h.opens ∙ opens source room its_room) in
      rw new at (calls_step (state h.opened.receiver h.area) packets answered x h.calls)

-- After any history the receiver is well formed and the area as long as the room, and neither 9 nor 8 was ever answered;
pub reachable : HistoriesReach
reachable source room packets answered x h =
    let s = its_steps h in
    rw (s.0, s.1) (stays (state (fresh source room) h.area) packets (fresh_well_formed source room (its_room h)) h.as_long_as_the_room h.bytes)

-- and the builder answers neither of them then.
pub builds : BuilderRefusesNeither
builds source room packets answered x before w after h met =
    let r = reachable source room packets answered x h in
    built-replied x.receiver x.area met r.formed (r.as_long_as_the_room ∙ sym r.room_stays)

-- A history with one call more is a history.
module _ {source room : ℕ} {packets : List (List ℕ)} {answered : List Answer} {x : State} (h : History source room packets answered x) where
  unfoldable pub one_call_more : (p : List ℕ) (a : Answer) (z : State) → Bytes p → Receives x.receiver x.area p (record { answer = a; receiver = z.receiver }) z.area → History source room (packets ++ (p ∷ [])) (answered ++ (a ∷ [])) z
  one_call_more p a z bytes receives = record {
    opened = h.opened;
    opens = h.opens;
    with_reply_0 = h.with_reply_0;
    area = h.area;
    as_long_as_the_room = h.as_long_as_the_room;
    bytes = each_append Bytes packets (p ∷ []) h.bytes (bytes, tt);
    calls = calls_append (state h.opened.receiver h.area) packets answered x (p ∷ []) (a ∷ []) z h.calls (z, receives, refl);
  }
