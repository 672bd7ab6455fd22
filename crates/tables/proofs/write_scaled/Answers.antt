-- `tables::write_scaled` meets its contract: each length of the output is a law of `Writes`, and the checker computes the definition's
-- 128 entries and compares them with those stored. Assumes nothing.
use Rattle.std.proofs.Common.{refl, ap, arith, List, ℕ, ◌++◌, map, length-take-le, drop-drop, sym}
use Rattle.replies.specs.Output.{writes_short, writes_all}
use Rattle.tables.specs.Quantiser.{luma_at, chroma_at, zigzag, in_zigzag, made, scaled, length_scaled}
use Rattle.tables.proofs.write_scaled.Goals as goal

pub returns-then-out-lt128 : goal.returns-then-out-lt128
returns-then-out-lt128 c = writes_short 128 (length_scaled _) (omega arith) refl

pub slice_bounds-write_table-end-2 : goal.slice_bounds-write_table-end-2
slice_bounds-write_table-end-2 c = sym (length-take-le 64 c.args.out.now (omega arith))

pub write_table-requires-clause-len : goal.write_table-requires-clause-len
write_table-requires-clause-len c = length-take-le 64 c.args.out.now (omega arith)

pub returns : goal.returns
unfolding scaled luma_at chroma_at zigzag in_zigzag
returns c =
    let s = c.args.scale in
    writes_all 128 (length_scaled s) (omega arith) refl (rw (c.write_table.ensures, c.write_table-2.ensures)
    (ap (λ (l : List ℕ). (map (made s) (in_zigzag luma_at) ++ map (made s) (in_zigzag chroma_at)) ++ l) (drop-drop 64 64 c.args.out.now)))
