-- `receiver::judge::Arrival::judge_place` meets its contract: check by check, by what the pass tells. Assumes nothing.
use Rattle.std.proofs.Common.{◌≡◌, ℕ, ◌<◌, Bool, false, ◌&&◌, List, length, take, sym, ap, ◌∙◌, arith, le-leb}
use Rattle.std.proofs.lemmas.Bool.{lt-leb}
use Rattle.fragments.specs.Array.{placed}
use Rattle.fragments.specs.Clash.{clashes, near_clashes}
use Rattle.fragments.specs.Insertion.{place}
use Rattle.fragments.specs.declared.Fragment.{Fragment}
use Rattle.fragments.specs.declared.Placed.{Placed}
use Rattle.replies.specs.Checks.{PastFirst, start, passes, fails, none_left}
use Rattle.state.specs.Receiver.{held_fragments}
use Rattle.state.specs.declared.Receiver.{Receiver}
use Rattle.wire.specs.Readable.{scan_short, scan_some}
use Rattle.receiver.specs.Known.{Known}
use Rattle.receiver.specs.Picture.{picture_for, picture_kept, picture_in_place}
use Rattle.receiver.specs.Verdict.{fragment_of, is_again, same_contents, place_checks}
use Rattle.receiver.specs.declared.judge.Arrival.{Arrival}
use Rattle.receiver.specs.declared.picture.Numbers.{Numbers}
use Rattle.receiver.proofs.Placing.{again_by, picture_fragments, picture_length, at_place, same_held, clash_told}
use Rattle.receiver.proofs.judge.Arrival.judge_place.Goals as goal

-- what the pass over the fragments tells, of the picture
module _ {r : Receiver} {a : Arrival} {f : Fragment} {q : Placed} (known : Known r a) (part : f ≡ fragment_of a.said) (pass : q ≡ placed f (take a.picture.count r.fragments)) where
  counted : a.picture.count ≡ (picture_for r a.said).fragment_count
  counted = ap (λ (x : Numbers). x.count) known.picture

  told : q ≡ placed (fragment_of a.said) (take (picture_for r a.said).fragment_count r.fragments)
  told = pass ∙ rw (counted, part)

  goes : q.at ≡ place (fragment_of a.said) (held_fragments (picture_for r a.said))
  goes = at_place known told

  clashed : {b : Bool} → b ≡ near_clashes f q.shares a.picture.end q.at a.picture.count → clashes (fragment_of a.said) (held_fragments (picture_for r a.said)) ≡ b
  clashed e = sym (e ∙ rw (part, counted, ap (λ (x : Numbers). x.end) known.picture) (clash_told known told))

  few : a.picture.count < 64 → length (held_fragments (picture_for r a.said)) < 64
  few h = omega (arith, counted, picture_length known)

  module _ (area : List ℕ) where
    again : {b : Bool} → b ≡ (q.same && same_contents area a.packet.now a.said r.tables) → is_again (picture_for r a.said) area a.packet.now a.said ≡ b
    again e = sym (e ∙ rw (same_held known told) (sym (again_by r a.said area a.packet.now)))

    module _ (other : false ≡ (q.same && same_contents area a.packet.now a.said r.tables)) where
      past_again : PastFirst 1 (place_checks (picture_for r a.said) area a.packet.now a.said)
      past_again = passes start (again other)

      module _ (agrees : false ≡ near_clashes f q.shares a.picture.end q.at a.picture.count) where
        past_clash : PastFirst 2 (place_checks (picture_for r a.said) area a.packet.now a.said)
        past_clash = passes past_again (clashed agrees)

        past_full : a.picture.count < 64 → PastFirst 3 (place_checks (picture_for r a.said) area a.packet.now a.said)
        past_full h = passes past_clash (lt-leb 64 _ (few h))

pub fragment_of-f-requires : goal.fragment_of-f-requires
fragment_of-f-requires c = let short = scan_short c.args.receiver.now.source c.args.self.packet.now c.args.self.said c.requires.read in omega arith

pub place_of-placed-requires-clause-in_order : goal.place_of-placed-requires-clause-in_order
place_of-placed-requires-clause-in_order c =
    let a = c.args in
    let count : a.self.picture.count ≡ (picture_for a.receiver.now a.self.said).fragment_count = ap (λ (x : Numbers). x.count) c.requires.picture in
    let held : take a.self.picture.count a.receiver.now.fragments ≡ held_fragments (picture_for a.receiver.now a.self.said) = rw count (picture_fragments a.receiver.now a.self.said) in
    (rw held (picture_in_place a.receiver.now a.self.said c.requires.formed).order, rw held (picture_length c.requires ∙ sym count))

pub place_of-placed-requires-clause-reach_of_these : goal.place_of-placed-requires-clause-reach_of_these
place_of-placed-requires-clause-reach_of_these c =
    let a = c.args in
    let count : a.self.picture.count ≡ (picture_for a.receiver.now a.self.said).fragment_count = ap (λ (x : Numbers). x.count) c.requires.picture in
    let held : take a.self.picture.count a.receiver.now.fragments ≡ held_fragments (picture_for a.receiver.now a.self.said) = rw count (picture_fragments a.receiver.now a.self.said) in
    (rw held (ap (λ (x : Numbers). x.reach) c.requires.picture), rw c.fragment_of-f.ensures (scan_some a.receiver.now.source a.self.packet.now a.self.said c.requires.read))

pub returns-then-is_again : goal.returns-then-is_again
returns-then-is_again c =
    let a = c.args in
    rw (fails (start {checks = place_checks (picture_for a.receiver.now a.self.said) a.area.now a.self.packet.now a.self.said})
    (again c.requires c.fragment_of-f.ensures c.place_of-placed.ensures a.area.now c.if-is_again.ensures))

pub returns-then-clashes : goal.returns-then-clashes
returns-then-clashes c =
    rw (fails (past_again c.requires c.fragment_of-f.ensures c.place_of-placed.ensures c.args.area.now c.if-is_again.ensures)
    (clashed c.requires c.fragment_of-f.ensures c.place_of-placed.ensures c.if-clashes.ensures))

pub returns-then-self-ge64 : goal.returns-then-self-ge64
returns-then-self-ge64 c =
    let a = c.args in
    let count = counted c.requires c.fragment_of-f.ensures c.place_of-placed.ensures in
    let long = picture_length c.requires in
    rw (fails (past_clash c.requires c.fragment_of-f.ensures c.place_of-placed.ensures a.area.now c.if-is_again.ensures c.if-clashes.ensures)
    (le-leb 64 (length (held_fragments (picture_for a.receiver.now a.self.said))) (omega (arith, c.if-self-ge64.true, count, long))))

pub returns-then-is_bare : goal.returns-then-is_bare
returns-then-is_bare c =
    let a = c.args in
    let past = past_full c.requires c.fragment_of-f.ensures c.place_of-placed.ensures a.area.now c.if-is_again.ensures c.if-clashes.ensures c.if-self-ge64.false in
    rw (fails past (rw (picture_kept a.receiver.now a.self.said) (sym c.if-is_bare.ensures)))

pub returns : goal.returns
returns c =
    let a = c.args in
    let past = past_full c.requires c.fragment_of-f.ensures c.place_of-placed.ensures a.area.now c.if-is_again.ensures c.if-clashes.ensures c.if-self-ge64.false in
    let at = goes c.requires c.fragment_of-f.ensures c.place_of-placed.ensures in
    rw (none_left (passes past (rw (picture_kept a.receiver.now a.self.said) (sym c.if-is_bare.ensures))), at)
