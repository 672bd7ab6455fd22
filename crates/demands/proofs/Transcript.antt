-- A transcript of four packets on the definitions, computed: the second of a picture, again, the first, again. Assumes nothing.
use Rattle.std.proofs.Common.{arith}
use Rattle.std.specs.Prelude.{refl, replicate}
use Rattle.wire.specs.Field.{Bytes}
use Rattle.demands.proofs.History.{history}
use Rattle.demands.specs.Computing.{computes_file, computes_step}
use Rattle.demands.specs.History.{History, step, after}
use Rattle.demands.specs.Transcript.{second, first, packets, start, lines, Transcript}

pub transcript : Transcript
unfolding computes_step computes_file
transcript = record { answered = refl; area = refl; whole = refl; file = refl }

-- It is a history such as the theorems speak of.
pub as_history : History 1 6 packets lines (after step start packets)
as_history =
    let a : Bytes first = omega arith in
    let b : Bytes second = omega arith in
    rw transcript.answered at (history 1 6 (replicate 6 7) packets (omega arith) refl (b, (b, (a, (a, tt)))))
