-- `sender::Picture::cut_at` meets its contract: its arithmetic is that of the places. Assumes nothing.
use Rattle.std.proofs.Common.{sym, ◌∙◌, arith, le-leb}
use Rattle.std.proofs.lemmas.Bool.{lt-leb}
use Rattle.sender.proofs.Places.{holding, place_next, reaches, cut_k}
use Rattle.sender.proofs.Picture.cut_at.Goals as goal

pub overflow_sub-end : goal.overflow_sub-end
overflow_sub-end c =
    let measured = holding c.requires.fit c.capacity_behind-capacity.ensures c.tables_length-taken.ensures in
    omega (arith, measured.apart, place_next c.args.k c.capacity_behind-capacity.result)

pub cut-requires : goal.cut-requires
cut-requires c =
    let measured = holding c.requires.fit c.capacity_behind-capacity.ensures c.tables_length-taken.ensures in
    let here = reaches measured c.args.k c.requires.fit.scan.0 c.requires.index in
    (omega (arith, here), c.requires.fit.scan.1)

pub returns-then-self-end : goal.returns-then-self-end
returns-then-self-end c =
    let measured = holding c.requires.fit c.capacity_behind-capacity.ensures c.tables_length-taken.ensures in
    let here = reaches measured c.args.k c.requires.fit.scan.0 c.requires.index in
    c.cut.ensures ∙ sym ((cut_k measured c.args.k c.requires.fit.scan.0 here).1 ∙ rw (le-leb _ _ c.if-self-end.true, c.saturating_sub-begin.ensures))

pub returns-else-self-end : goal.returns-else-self-end
returns-else-self-end c =
    let measured = holding c.requires.fit c.capacity_behind-capacity.ensures c.tables_length-taken.ensures in
    let here = reaches measured c.args.k c.requires.fit.scan.0 c.requires.index in
    c.cut-else-self-end.ensures ∙ sym ((cut_k measured c.args.k c.requires.fit.scan.0 here).1 ∙ rw (lt-leb _ _ c.if-self-end.false, c.saturating_sub-begin.ensures))
