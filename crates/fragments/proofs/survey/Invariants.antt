-- The first loop tells of those before its index, and the second of the places from n on that it has passed.
use Rattle.std.proofs.Common.{◌≡◌, ◌*◌, ◌^◌, ◌≤◌, eqb, take}
use Rattle.laws.specs.All.{all}
use Rattle.laws.specs.Chained.{chained}
use Rattle.fragments.specs.Array.{is_nothing}
use Rattle.fragments.specs.Fragments.{nothing}
use Rattle.fragments.specs.Held.{total}
use Rattle.fragments.specs.Order as Order
use Rattle.fragments.proofs.survey.Given as goal

abbrev pub invariant-loop-f : goal.invariant-loop-f
invariant-loop-f l =
    let passed = take l.f-index l.f-items in
    (l.ordered ≡ chained Order.follows nothing passed)
    × (l.bytes ≡ total passed)
    × (l.bytes ≤ 2 ^ 32 * l.f-index)
    × (l.last ≡ Order.last passed)

abbrev pub invariant-loop-f-2 : goal.invariant-loop-f-2
invariant-loop-f-2 l = eqb l.set 0 ≡ all is_nothing (take l.f-index l.f-items)
