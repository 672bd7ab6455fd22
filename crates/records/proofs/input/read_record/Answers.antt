-- `records::input::read_record` meets its contract: what each read gives goes on behind what came, up to the end of the record that it
-- begins. Assumes nothing.
use Rattle.std.proofs.Common.{arith, sym, subst, ◌-◌, [], take}
use Rattle.std.specs.Io.KnownBytes.{Consumes}
use Rattle.std.proofs.KnownBytes.{Consumes-nil, Consumes-kept}
use Rattle.std.proofs.lemmas.Slice.{drop-put_mid}
use Rattle.records.proofs.Reading.{reads_nothing, reads_more, reads_no_more, read_into}
use Rattle.records.proofs.input.read_record.Goals as goal

pub loop-done-init : goal.loop-done-init
loop-done-init g c = reads_nothing _ _

pub loop-done-preserved : goal.loop-done-preserved
loop-done-preserved g c =
    let bound = c.in-Ok.ensures.bound in
    let behind = drop-put_mid c.loop-done.done (c.length-end.result - c.loop-done.done) c.loop-done.buffer c.read.new.buf c.length-end.result (omega arith) (omega arith) (omega arith) in
    let front = read_into c.loop-done.done _ c.in-Ok.n c.loop-done.buffer c.read.new.buf (omega arith) bound.0 in
    reads_more _ c.loop-done.invariant c.length-end.ensures.told c.in-Ok.ensures.bytes.0 (sym bound.1) (omega (arith, bound)) (omega (arith, bound)) front behind

pub returns-in-Ok-eq0-clause-part : goal.returns-in-Ok-eq0-clause-part
returns-in-Ok-eq0-clause-part g c =
    let none = subst (λ n. Consumes (g.R.Read.remaining c.loop-done.input) (g.R.Read.remaining c.read.new.self) (take n c.read.new.buf)) c.in-Ok-eq0.field-0-test c.in-Ok-eq0.ensures.bytes.0 in
    reads_no_more c.read.new.buf c.loop-done.invariant c.length-end.ensures.told (omega arith) (omega arith) (omega arith) none

pub returns-in-Err-clause-part : goal.returns-in-Err-clause-part
returns-in-Err-clause-part g c =
    let none = Consumes-kept _ _ (g.R.Read.remaining c.read.new.self) [] (Consumes-nil (g.R.Read.remaining c.loop-done.input)) c.in-Err.ensures.bytes in
    reads_no_more c.read.new.buf c.loop-done.invariant c.length-end.ensures.told (omega arith) (omega arith) (omega arith) none
