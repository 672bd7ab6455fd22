-- `fragments::survey` meets its contract. Assumes nothing.
use Rattle.std.proofs.Common.{lt-ltb, le-ltb, ◌+◌, ◌&&◌, ltb, eqb, min, ◌≡◌, ◌-◌, ◌<◌, sym, arith, rules, length, length-drop, get_or, take, drop, take_all}
use Rattle.laws.specs.Truth.{split, and_truth, and_false}
use Rattle.laws.specs.All.{all_more}
use Rattle.laws.specs.Chained.{chained, chained_pass, chained_fail, last_more}
use Rattle.fragments.specs.Array.{is_nothing, first_from_zero}
use Rattle.fragments.specs.Fragments.{nothing}
use Rattle.fragments.specs.Held.{total_more}
use Rattle.fragments.specs.Order as Order
use Rattle.fragments.proofs.Count.{first_of_64, rest_of_64}
use Rattle.fragments.proofs.Unset.{none_set, no_bits}
use Rattle.fragments.proofs.survey.Goals as goal
use Rattle.fragments.proofs.survey.Goals.{then-n-gt0, else-n-gt0}

pub loop-f-preserved : goal.loop-f-preserved
loop-f-preserved c =
    let l = take c.min-n.result c.args.fragments.now in
    let i = c.loop-f.f-index in
    let h : i < length l = c.loop-f-test.true in
    let test = Order.follows (Order.last (take i l)) (get_or l i nothing) in
    let more : (chained Order.follows nothing (take i l) && test) ≡ chained Order.follows nothing (take (i + 1) l) = split test (λ e. rw (e, chained_pass Order.follows nothing l i nothing h e) (and_truth _)) (λ e. rw (e, chained_fail Order.follows nothing l i nothing h e) (and_false _)) in (
      rw (c.loop-f.invariant.0, c.follows.ensures, c.loop-f.invariant.3) more,
      rw (total_more l i h) (omega (arith, c.loop-f.invariant.1)),
      omega (arith, c.loop-f.invariant.2),
      sym (last_more nothing l i nothing h),
    )

pub loop-f-2-preserved : goal.loop-f-2-preserved
loop-f-2-preserved c = rw (all_more is_nothing _ _ nothing c.loop-f-2-test.true, none_set c.loop-f-2.set, c.loop-f-2.invariant, c.bits.ensures, no_bits)

pub returns-clause-surveys : goal.returns-clause-surveys
returns-clause-surveys c =
    let l = c.args.fragments.now in
    let count = c.args.count in
    let n = c.min-n.result in
    let rest = take (64 - n) (drop n l) in
    let long : length l ≡ 64 = search rules in
    let few : n ≡ min count 64 = search rules in
    let front = first_of_64 count l long few in
    let behind = rest_of_64 count l long few in
    let all_rest = take_all (64 - n) (drop n l) (simp length-drop (omega arith)) in
    let passed = take_all c.loop-f.f-index (take n l) (omega arith) in
    let passed_rest = take_all c.loop-f-2.f-index rest (omega arith) in
    let starts : c.if-n-gt0.result ≡ (ltb 0 n && eqb (get_or l 0 nothing).offset 0) = elim c.if-n-gt0.branch [ then-n-gt0 w ↦ rw (lt-ltb 0 n w.if-n-gt0.true) w.result-is | else-n-gt0 w ↦ rw (w.result-is, le-ltb 0 n (omega arith)) ] in
    cc (Order.ordered_chain (take n l), first_from_zero l n (search rules))
