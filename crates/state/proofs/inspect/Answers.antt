-- `state::inspect` meets its contract: what a well-formed receiver holds fits, since its room does. Assumes nothing.
use Rattle.std.proofs.Common.{sym, ap, ◌∙◌, arith, Ok}
use Rattle.fragments.specs.declared.Surveyed.{Surveyed}
use Rattle.state.specs.WellFormed.{holding, known_well_formed, held_within_room, reach_within_room, inspected_holds, inspected_not}
use Rattle.state.proofs.inspect.Goals as goal

pub returns-then-not-well_formed-clause-inspects : goal.returns-then-not-well_formed-clause-inspects
returns-then-not-well_formed-clause-inspects c = sym (inspected_not c.args.receiver.now (sym c.if-not-well_formed.ensures))

pub overflow_cast-held : goal.overflow_cast-held
overflow_cast-held c =
    let w = known_well_formed c.args.receiver.now (sym c.if-not-well_formed.ensures) in
    omega (arith, ap (λ (t : Surveyed). t.bytes) c.survey-survey.ensures.surveys, held_within_room w)

pub overflow_cast-reach : goal.overflow_cast-reach
overflow_cast-reach c =
    let w = known_well_formed c.args.receiver.now (sym c.if-not-well_formed.ensures) in
    omega (arith, ap (λ (t : Surveyed). t.stop) c.survey-survey.ensures.surveys, reach_within_room w)

pub returns-clause-inspects : goal.returns-clause-inspects
returns-clause-inspects c =
    ap (λ (t : Surveyed). Ok (holding t.bytes t.stop)) c.survey-survey.ensures.surveys ∙ sym (inspected_holds c.args.receiver.now (sym c.if-not-well_formed.ensures))
