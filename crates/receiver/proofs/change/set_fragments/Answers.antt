-- `receiver::change::set_fragments` meets its contract. Assumes nothing.
use Rattle.std.proofs.Common.{◌≡◌, cond, length, ◌∙◌, rules, lt-ltb, le-leb}
use Rattle.std.proofs.lemmas.List.{length-replicate}
use Rattle.fragments.specs.Array.{no_fragments, put_in_padded}
use Rattle.fragments.specs.Fragments.{nothing}
use Rattle.receiver.proofs.change.set_fragments.Goals as goal
use Rattle.receiver.proofs.change.set_fragments.Goals.{then-begun, else-begun}

pub returns : goal.returns
unfolding no_fragments
returns c =
    let a = c.args in
    let long : length (cond a.begun no_fragments a.fragments.now) ≡ 64 = elim c.if-begun.branch [
      | then-begun w ↦ rw w.if-begun.true (length-replicate 64 nothing)
      | else-begun w ↦ rw w.if-begun.false (search rules)
    ] in
    let chosen : c.if-begun.fragments ≡ cond a.begun no_fragments a.fragments.now = elim c.if-begun.branch [
      | then-begun w ↦ w.fragments-is ∙ w.none.ensures ∙ rw w.if-begun.true
      | else-begun w ↦ w.fragments-is ∙ rw w.if-begun.false
    ] in
    c.insert.ensures
    ∙ rw (lt-ltb a.count 64 c.requires.room_for_one.0, le-leb a.at a.count c.requires.room_for_one.1, chosen)
    (put_in_padded (cond a.begun no_fragments a.fragments.now) a.count a.at a.f long c.requires.room_for_one.0 c.requires.unused_behind)
