-- `wire::filled_up` meets its contract: the bytes that there are, and zeros behind them. Assumes nothing.
use Rattle.std.proofs.Common.{ℕ, ◌+◌, ◌-◌, ◌≤◌, length, take, replicate, ◌≡◌, arith, length-take}
use Rattle.std.proofs.lemmas.List.{length-replicate}
use Rattle.laws.specs.Lists.{drop_replicate}
use Rattle.laws.specs.Put.{put_front}
use Rattle.slices.specs.Slices.{put_at, put_fits}
use Rattle.wire.proofs.filled_up.Goals as goal

pub returns : goal.returns
returns c =
    let bytes = c.args.bytes.now in
    let put : c.put.new.out ≡ put_at (replicate 128 0) 0 c.part-front.result.now = c.put.ensures in
    let short : 0 + length (take 128 bytes) ≤ length (replicate {A = ℕ} 128 0) = simp (length-take, length-replicate) (omega arith) in
    let rest : 128 - length (take 128 bytes) ≡ 128 - length bytes = simp length-take (omega arith) in
    rw (put, c.part-front.ensures, put_fits (replicate 128 0) 0 (take 128 bytes) short, put_front (replicate 128 0) (take 128 bytes), drop_replicate (length (take 128 bytes)) 128 0, rest)
