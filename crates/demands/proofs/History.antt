-- A history of calls, a packet each. Assumes nothing.
use Rattle.std.proofs.Common.{inl, inr, sym, ap, ap₂, ◌∙◌, arith, eqb-true}
use Rattle.std.proofs.Math.Path.{fun_ext}
use Rattle.std.proofs.lemmas.Bool.{eqb-false}
use Rattle.std.specs.Prelude.{ℕ, ◌<◌, List, [], ◌∷◌, ◌++◌, ◌≡◌, refl, eqb, take, drop}
use Rattle.laws.specs.Each.{Each, each_take, each_drop}
use Rattle.laws.specs.Truth.{split}
use Rattle.receiver.specs.Step.{Receives}
use Rattle.receiver.specs.declared.Received.{Received}
use Rattle.records.specs.Framing as Framing
use Rattle.records.specs.Framing.{Front, front, packet_length, by_front}
use Rattle.records.specs.Taking.{taken_by, area_by}
use Rattle.replies.specs.Reply
use Rattle.state.specs.Opening.{opens}
use Rattle.state.specs.Receiver.{fresh}
use Rattle.state.specs.declared.Answer.{Answer}
use Rattle.wire.specs.Field.{Bytes}
use Rattle.demands.specs.History.{State, state, Calls, Accepted, Outcome, outcome, after, answers, step, MeetsContract, packet_in, answer_in, CallsGoOn, RecordsAreCalls, NextRecordsAreCalls, RecordsAreOfBytes, ThereAreHistories}

-- ---- laws

-- accepted, by the number
module _ (a : Answer) where
  pub accepted_small : Accepted a → a.reply < 2
  accepted_small (inl e) = omega arith
  accepted_small (inr e) = omega arith

  pub small_accepted : a.reply < 2 → Accepted a
  small_accepted h = split (eqb a.reply Reply.held)
      (λ e. inl (eqb-true a.reply Reply.held e))
      (λ e. inr (let other = eqb-false a.reply Reply.held e in omega arith))

-- what packets leave, and then more packets
pub after_append : {S : Type 0} (step : S → List ℕ → Outcome S) (x : S) (packets more : List (List ℕ)) → after step x (packets ++ more) ≡ after step (after step x packets) more
after_append step x [] more = refl
after_append step x (p ∷ packets) more = after_append step (step x p).left packets more

-- a call that meets its contract is a step, and so a history is what the step makes of its packets
is_step : (x : State) (p : List ℕ) (a : Answer) (z : State) → Receives x.receiver x.area p (record { answer = a; receiver = z.receiver }) z.area → outcome a z ≡ step x p
is_step x p a z met = ap₂ (λ (d : Received) (area : List ℕ). outcome d.answer (state d.receiver area)) met.answer met.lent

pub the_step : (f : State → List ℕ → Outcome State) → MeetsContract f → step ≡ f
the_step f met = fun_ext (λ x. fun_ext (λ p. sym (is_step x p (f x p).answer (f x p).left (met x p))))

pub calls_step : (x : State) (packets : List (List ℕ)) (answered : List Answer) (y : State) → Calls x packets answered y → (answered ≡ answers step x packets) × (y ≡ after step x packets)
calls_step x [] [] y c = (refl, sym c)
calls_step x [] (a ∷ answered) y c = absurd c
calls_step x (p ∷ packets) [] y c = absurd c
calls_step x (p ∷ packets) (a ∷ answered) y c =
    let one = is_step x p a c.0 c.1 in
    let rest = calls_step c.0 packets answered y c.2 in (
      ap (λ (l : List Answer). a ∷ l) rest.0 ∙ ap (λ (o : Outcome State). o.answer ∷ answers step o.left packets) one,
      rest.1 ∙ ap (λ (o : Outcome State). after step o.left packets) one,
    )

step_calls : (x : State) (packets : List (List ℕ)) → Calls x packets (answers step x packets) (after step x packets)
step_calls x [] = refl
step_calls x (p ∷ packets) = ((step x p).left, record { answer = refl; lent = refl }, step_calls (step x p).left packets)

-- calls, and calls that go on from there
pub calls_append : CallsGoOn
calls_append x [] [] y more answered' z c d = rw c d
calls_append x [] (a ∷ answered) y more answered' z c d = absurd c
calls_append x (p ∷ packets) [] y more answered' z c d = absurd c
calls_append x (p ∷ packets) (a ∷ answered) y more answered' z c d = (c.0, c.1, calls_append c.0 packets answered y more answered' z c.2 d)

pub take_calls : RecordsAreCalls
take_calls r area bytes t after met = rw (met.taken, met.lent) (go (front bytes))
  where
    go : (f : Front) → Calls (state r area) (packet_in f) (answer_in (taken_by f r area).came) (state (taken_by f r area).receiver (area_by f r area))
    go Framing.Front.nothing = refl
    go Framing.Front.cut = refl
    go (Framing.Front.packet p) = step_calls (state r area) (p ∷ [])

pub take_next_calls : NextRecordsAreCalls
take_next_calls left r area before buffer t unfailed after left_after next = take_calls r area (take next.n buffer) t after next.takes

pub packet_bytes : RecordsAreOfBytes
packet_bytes bytes b = by_front bytes (λ (f : Front). Each Bytes (packet_in f)) tt tt (each_take (λ (v : ℕ). v < 256) (packet_length bytes) (drop 2 bytes) (each_drop (λ (v : ℕ). v < 256) 2 bytes b), tt)

-- There is a history for any source, any room of 1 to 65,536, any area of that length, and any packets of any bytes.
module _ (source room : ℕ) (area : List ℕ) (packets : List (List ℕ)) where
  pub history : ThereAreHistories source room area packets
  history range long bytes = record {
    opened = record { answer = record { reply = Reply.success; held = 0 }; receiver = fresh source room };
    opens = sym (opens source room range);
    with_reply_0 = refl;
    area = area;
    as_long_as_the_room = long;
    bytes = bytes;
    calls = step_calls (state (fresh source room) area) packets;
  }
