-- `slices::copy_in_pieces` meets its contract: each turn copies one piece more. Assumes nothing.
use Rattle.std.proofs.Common.{arith}
use Rattle.slices.proofs.Place.{copied_more}
use Rattle.slices.proofs.copy_in_pieces.Goals as goal

pub loop-done-preserved : goal.loop-done-preserved
loop-done-preserved c =
    (omega (arith, c.min-end.ensures), copied_more c.args.from.now c.args.to.now c.loop-done.to _ c.loop-done.done c.min-end.result (omega (arith, c.min-end.ensures)) (omega (arith, c.min-end.ensures)) c.loop-done.invariant.1 c.copy_from_slice.ensures.after)
