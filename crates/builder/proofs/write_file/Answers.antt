-- `builder::write_file` meets its contract: the room in the output, the head, and behind it the body. Assumes nothing.
use Rattle.std.proofs.Common.{ℕ, rules, refl, ◌+◌, ◌≤◌, List, ◌≡◌, ◌∙◌, arith, length, length-append}
use Rattle.head.specs.Head.{head, head_length, length_head, head_small}
use Rattle.head.specs.declared.Frame.{Frame}
use Rattle.laws.specs.Put.{puts_more, puts_front}
use Rattle.replies.specs.Output.{writes_short, writes_all}
use Rattle.slices.specs.Slices.{puts_fits}
use Rattle.builder.specs.File.{body, file, body_small}
use Rattle.builder.proofs.write_file.Goals as goal

long : (f : Frame) (tables scan : List ℕ) {n m : ℕ} → length tables ≡ 128 → n ≡ head_length f.interval → m ≡ length (body scan) → length (file f tables scan) ≡ n + m
unfolding file
long f tables scan t a b = length-append (head f tables) (body scan) ∙ omega (arith, length_head f tables t, a, b)

fits : (f : Frame) (scan : List ℕ) {n m : ℕ} → length scan ≤ 65536 → n ≡ head_length f.interval → m ≡ length (body scan) → n + m ≤ 66149
fits f scan s a b = omega (arith, head_small f.interval, body_small scan, s, a, b)

pub overflow_add-length : goal.overflow_add-length
overflow_add-length c = omega (arith, fits c.args.frame c.args.scan.now c.requires c.length-head.ensures c.length.ensures)

pub returns-then-out-length : goal.returns-then-out-length
returns-then-out-length c =
    writes_short (c.length-head.result + c.length.result) (long c.args.frame c.args.tables.now c.args.scan.now (search rules) c.length-head.ensures c.length.ensures) (omega arith) refl

pub overflow_cast-result : goal.overflow_cast-result
overflow_cast-result c = omega (arith, fits c.args.frame c.args.scan.now c.requires c.length-head.ensures c.length.ensures)

pub returns : goal.returns
unfolding file
returns c =
    let tables : length c.args.tables.now ≡ 128 = search rules in
    let tall = length_head c.args.frame c.args.tables.now tables in
    let n = long c.args.frame c.args.tables.now c.args.scan.now tables c.length-head.ensures c.length.ensures in
    let whole = puts_more (puts_fits (omega (arith, c.length-head.ensures, tall)) c.put.ensures) c.put-2.ensures (omega arith) (omega (arith, c.length-head.ensures, tall)) in
    writes_all (c.length-head.result + c.length.result) n (omega arith) refl (puts_front whole n)
