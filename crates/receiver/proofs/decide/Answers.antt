-- `receiver::decide` meets its contract: the area, the reader, the verdict. Assumes nothing.
use Rattle.std.proofs.Common.{◌≡◌, ℕ, true, List, length, Ok, Err, sym, refl, ap, ◌∙◌, arith}
use Rattle.std.proofs.lemmas.Result.{err_from_is_err_and}
use Rattle.replies.specs.Checks.{Judged, Passed}
use Rattle.replies.specs.declared.Refusal.{Refusal}
use Rattle.state.specs.WellFormed.{well_formed, holds_inspected}
use Rattle.state.specs.declared.Receiver.{Receiver}
use Rattle.wire.specs.Reading.{reading}
use Rattle.wire.specs.declared.Packet.{Packet}
use Rattle.receiver.proofs.Laws.{other_room, read_first}
use Rattle.receiver.specs.Known.{ruled_at, its_place}
use Rattle.receiver.specs.Step.{decision, ruled, judged_read}
use Rattle.receiver.specs.Verdict.{verdict, accepted}
use Rattle.receiver.proofs.decide.Goals as goal

-- what is ruled on a packet, and where its fragment goes
passed : (j : Judged) {at n : ℕ} → Ok at ≡ ruled_at j n → (j ≡ Passed) × (at ≡ n)
passed (Ok tt) e = (refl, cc)
passed (Err why) e = absurd (let z : ◌≡◌ {A = ℕ} 0 1 = cc in omega arith)

refused : (j : Judged) (at : ℕ) {why : Refusal} → Err why ≡ ruled_at j at → j ≡ Err why
refused (Ok tt) at e = absurd (let z : ◌≡◌ {A = ℕ} 0 1 = cc in omega arith)
refused (Err why) at e = cc

-- what was read is ruled on
judged_so : (r : Receiver) (area p : List ℕ) {s : Packet} {j : Judged} → well_formed r ≡ true → length area ≡ r.room → Ok s ≡ reading r.source p → verdict r area p s ≡ j → decision r area p ≡ ruled j s
judged_so r area p {s} w lent read v = read_first r area p w lent ∙ ap (judged_read r area p) (sym read) ∙ ap (λ (j : Judged). ruled j s) v

pub returns-then-area-receiver : goal.returns-then-area-receiver
returns-then-area-receiver c =
    let a = c.args in
    other_room a.receiver.now a.area.now a.packet.now (holds_inspected a.receiver.now (sym c.requires.inspected)).0 c.if-area-receiver.true

pub returns-in_default : goal.returns-in_default
returns-in_default c =
    let a = c.args in
    read_first a.receiver.now a.area.now a.packet.now (holds_inspected a.receiver.now (sym c.requires.inspected)).0 c.if-area-receiver.false
    ∙ ap (judged_read a.receiver.now a.area.now a.packet.now) (sym c.read-reading.ensures ∙ c.unwrap_err.ensures)

pub picture_for-requires : goal.picture_for-requires
picture_for-requires c = (holds_inspected c.args.receiver.now (sym c.requires.inspected)).1

pub judge-requires : goal.judge-requires
judge-requires c = record {
  formed = (holds_inspected c.args.receiver.now (sym c.requires.inspected)).0;
  long = c.requires.fragments_len;
  read = sym c.in-Ok.ensures;
  picture = c.picture_for.ensures;
}

pub returns-in_err-at : goal.returns-in_err-at
returns-in_err-at c =
    let a = c.args in
    let w = (holds_inspected a.receiver.now (sym c.requires.inspected)).0 in
    let v = refused (verdict a.receiver.now a.area.now a.packet.now c.in-Ok.said) (its_place a.receiver.now c.in-Ok.said) c.in_err-at.ensures in
    let e = err_from_is_err_and c.from_residual.result c.from_residual.ensures.1 in
    rw (e.1, e.2) (judged_so a.receiver.now a.area.now a.packet.now w c.if-area-receiver.false c.in-Ok.ensures v)

pub returns : goal.returns
returns c =
    let a = c.args in
    let s = c.in-Ok.said in
    let w = (holds_inspected a.receiver.now (sym c.requires.inspected)).0 in
    let v = passed (verdict a.receiver.now a.area.now a.packet.now s) c.in_ok-at.ensures in (
      judged_so a.receiver.now a.area.now a.packet.now w c.if-area-receiver.false c.in-Ok.ensures v.0,
      c.if-area-receiver.false,
      refl,
      record {
        known = record {
          formed = w;
          long = c.requires.fragments_len;
          read = sym c.in-Ok.ensures;
          picture = c.picture_for.ensures;
        };
        accepted = accepted _ _ _ _ v.0;
        place = v.1;
      },
    )
