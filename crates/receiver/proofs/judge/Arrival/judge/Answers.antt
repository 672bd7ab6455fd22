-- `receiver::judge::Arrival::judge` meets its contract: check by check, and then by the place. Assumes nothing.
use Rattle.std.proofs.Common.{◌≡◌, ℕ, Bool, false, ◌&&◌, ◌||◌, not, eqb, List, sym, ap, ◌∙◌, arith, le-ltb, lt-ltb}
use Rattle.fragments.specs.Fragments.{stop}
use Rattle.laws.specs.Truth.{and_assoc}
use Rattle.replies.specs.Checks.{PastFirst, start, passes, fails}
use Rattle.state.specs.Receiver.{header_of}
use Rattle.state.specs.declared.Receiver.{Receiver}
use Rattle.wire.specs.Readable.{scan_short}
use Rattle.wire.specs.declared.Header.{Header}
use Rattle.receiver.specs.Known.{Known}
use Rattle.receiver.specs.Picture.{picture_for, picture_room}
use Rattle.receiver.specs.Time.{is_behind}
use Rattle.receiver.specs.Verdict.{fragment_of, is_past, is_unlike, checks}
use Rattle.receiver.specs.declared.judge.Arrival.{Arrival}
use Rattle.receiver.specs.declared.picture.Numbers.{Numbers}
use Rattle.receiver.proofs.judge.Arrival.judge.Goals as goal

-- what `!=` of the struct tells
differ : (h g : Header) → not (eqb h.kind g.kind && (eqb h.q g.q && (eqb h.width g.width && (eqb h.height g.height && eqb h.interval g.interval)))) ≡ is_unlike h g
unfolding is_unlike
differ h g =
    let kind = eqb h.kind g.kind in
    let q = eqb h.q g.q in
    let width = eqb h.width g.width in
    let height = eqb h.height g.height in
    let interval = eqb h.interval g.interval in
    ap not (and_assoc kind q (width && (height && interval)) ∙ and_assoc (kind && q) width (height && interval) ∙ and_assoc (kind && q && width) height interval)

-- what the code asks of the picture's numbers, of the picture
module _ {r : Receiver} {a : Arrival} (known : Known r a) where
  past : {b : Bool} → b ≡ (is_behind a.said.time a.picture.time || a.picture.whole) → is_past (picture_for r a.said) a.said ≡ b
  past e = sym (e ∙ rw (ap (λ (x : Numbers). x.time) known.picture, ap (λ (x : Numbers). x.whole) known.picture))

  unlike : {b : Bool} → b ≡ not (eqb a.picture.header.kind a.said.header.kind && (eqb a.picture.header.q a.said.header.q && (eqb a.picture.header.width a.said.header.width && (eqb a.picture.header.height a.said.header.height && eqb a.picture.header.interval a.said.header.interval)))) → is_unlike (header_of (picture_for r a.said)) a.said.header ≡ b
  unlike e = sym (e ∙ differ a.picture.header a.said.header ∙ ap (λ (x : Numbers). is_unlike x.header a.said.header) known.picture)

  module _ (area : List ℕ) (in_time : false ≡ (is_behind a.said.time a.picture.time || a.picture.whole)) where
    past_time : PastFirst 1 (checks (picture_for r a.said) area a.packet.now a.said)
    past_time = passes start (past in_time)

    past_header : is_unlike (header_of (picture_for r a.said)) a.said.header ≡ false → PastFirst 2 (checks (picture_for r a.said) area a.packet.now a.said)
    past_header like = passes past_time like

pub returns-then-is_past : goal.returns-then-is_past
returns-then-is_past c =
    let a = c.args in
    rw (fails (start {checks = checks (picture_for a.receiver.now a.self.said) a.area.now a.self.packet.now a.self.said}) (past c.requires c.if-is_past.ensures))

pub returns-then-ne : goal.returns-then-ne
returns-then-ne c = rw (fails (past_time c.requires c.args.area.now c.if-is_past.ensures) (unlike c.requires c.if-ne.ensures))

pub overflow_add-self : goal.overflow_add-self
overflow_add-self c =
    let short = scan_short c.args.receiver.now.source c.args.self.packet.now c.args.self.said c.requires.read in
    omega arith

pub returns-then-receiver-self : goal.returns-then-receiver-self
returns-then-receiver-self c =
    let a = c.args in
    rw (fails (past_header c.requires a.area.now c.if-is_past.ensures (unlike c.requires c.if-ne.ensures))
    (rw (picture_room a.receiver.now a.self.said) (lt-ltb a.receiver.now.room (stop (fragment_of a.self.said)) c.if-receiver-self.true)))

pub returns : goal.returns
returns c =
    let a = c.args in
    let fits = passes (past_header c.requires a.area.now c.if-is_past.ensures (unlike c.requires c.if-ne.ensures))
    (rw (picture_room a.receiver.now a.self.said) (le-ltb a.receiver.now.room (stop (fragment_of a.self.said)) c.if-receiver-self.false)) in
    c.judge_place.ensures ∙ rw fits.same
