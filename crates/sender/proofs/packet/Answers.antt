-- `sender::packet` meets its contract: the checks, the room in the output, and the packet. Assumes nothing.
use Rattle.std.proofs.Common.{◌≡◌, ℕ, ◌+◌, ◌≤◌, List, length, refl, sym, arith}
use Rattle.std.proofs.lemmas.Result.{err_from_is_err_and}
use Rattle.fragments.specs.Fragments.{fragment_at}
use Rattle.fragments.specs.Tiles.{Inside}
use Rattle.fragments.specs.declared.Fragment.{Fragment}
use Rattle.laws.specs.Put.{puts_front}
use Rattle.replies.specs.Output.{writes_refused, writes_short, writes_all}
use Rattle.replies.specs.Output.Decision.{write}
use Rattle.replies.specs.Checks.{Passed, judged}
use Rattle.wire.specs.Rtp.{fixed_end}
use Rattle.sender.specs.Fit.{few_tables}
use Rattle.sender.specs.Cuts.{cuts}
use Rattle.sender.specs.Packet.{packet, jpeg_headers, length_packet}
use Rattle.sender.specs.Picture.{Picture}
use Rattle.sender.specs.Sending.{Accepted, checks, sending, accepted}
use Rattle.sender.specs.Sent.{cut_inside, packet_fits}
use Rattle.sender.specs.declared.Stamp.{Stamp}
use Rattle.sender.proofs.packet.Goals as goal

-- the packet that is asked for
abbrev asked : Picture → ℕ → Stamp → ℕ → List ℕ
asked p size s k = packet s p k (fragment_at (cuts size p) k)

-- where all checks have passed
module _ (p : Picture) (size : ℕ) (s : Stamp) (k : ℕ) (passed : Passed ≡ judged (checks p size k)) where
  ok : Accepted p size k
  ok = accepted p size k (sym passed)

  decides : sending p size s k ≡ write (asked p size s k)
  unfolding sending
  decides = rw (← passed)

  -- and f is the cut asked for
  module _ (f : Fragment) (cut : f ≡ fragment_at (cuts size p) k) where
    inside : Inside 0 (length p.scan) f
    inside = rw cut (cut_inside ok.fit k ok.index)

    -- the length of the packet, n of it headers
    long : (n : ℕ) → n ≡ fixed_end + length (jpeg_headers p.header p.tables f.offset) → (length (asked p size s k) ≡ n + f.length) × (n + f.length ≤ 1472)
    long n e =
        let all : length (asked p size s k) ≡ n + f.length = rw (← cut) (omega (arith, length_packet s p k f inside.to)) in
        (all, omega (arith, all, packet_fits ok.fit k ok.index s, ok.fit.packet_size))

pub returns-in_err-judge : goal.returns-in_err-judge
unfolding sending
returns-in_err-judge c =
    let e = err_from_is_err_and c.from_residual.result c.from_residual.ensures.1 in
    rw (e.1, e.2, ← c.in_err-judge.ensures) (writes_refused refl)

pub cut_at-cut-requires : goal.cut_at-cut-requires
cut_at-cut-requires c = ok _ _ c.args.stamp _ c.in_ok-judge.ensures

pub overflow_add-length : goal.overflow_add-length
overflow_add-length c =
    let all = long _ _ c.args.stamp _ c.in_ok-judge.ensures _ c.cut_at-cut.ensures _ c.headers_length.ensures in
    omega (arith, all.1)

pub returns-then-out-length : goal.returns-then-out-length
returns-then-out-length c =
    let all = long _ _ c.args.stamp _ c.in_ok-judge.ensures _ c.cut_at-cut.ensures _ c.headers_length.ensures in
    rw (decides _ _ c.args.stamp _ c.in_ok-judge.ensures) (writes_short _ all.0 c.if-out-length.true refl)

pub put_packet-requires-clause-lawful : goal.put_packet-requires-clause-lawful
put_packet-requires-clause-lawful c =
    let a = ok _ _ c.args.stamp _ c.in_ok-judge.ensures in
    (a.fit.header, few_tables a.fit, omega (arith, a.index, a.few))

pub put_packet-requires-clause-marker_bound : goal.put_packet-requires-clause-marker_bound
put_packet-requires-clause-marker_bound c =
    let a = ok _ _ c.args.stamp _ c.in_ok-judge.ensures in
    let i = inside _ _ c.args.stamp _ c.in_ok-judge.ensures _ c.cut_at-cut.ensures in
    (i.marker, omega (arith, i.some, i.to, a.fit.scan), i.to)

pub overflow_cast-result : goal.overflow_cast-result
overflow_cast-result c =
    let all = long _ _ c.args.stamp _ c.in_ok-judge.ensures _ c.cut_at-cut.ensures _ c.headers_length.ensures in
    omega (arith, all.1)

pub returns : goal.returns
returns c =
    let all = long _ _ c.args.stamp _ c.in_ok-judge.ensures _ c.cut_at-cut.ensures _ c.headers_length.ensures in
    let put = rw c.cut_at-cut.ensures at c.put_packet.ensures in
    rw (decides _ _ c.args.stamp _ c.in_ok-judge.ensures)
    (writes_all _ all.0 c.if-out-length.false refl (puts_front put all.0))
