-- `wire::read` meets its contract: the RTP checks, then those of the payload. Assumes nothing.
use Rattle.std.proofs.Common.{le_of_lt, arith, ◌≡◌, sym, Err}
use Rattle.std.proofs.lemmas.Result.{err_from_is_err_and}
use Rattle.replies.specs.Checks.{Passed, judged, refused_first, passed_first}
use Rattle.wire.specs.Passed.{RtpPassed, rtp_passed, jpeg_passed}
use Rattle.wire.specs.Reading.{reading, rtp_checks, jpeg_checks}
use Rattle.wire.specs.Rtp.{payload_length, payload}
use Rattle.wire.proofs.read.Goals as goal

pub returns-in_err-judge : goal.returns-in_err-judge
unfolding reading
returns-in_err-judge c =
    let p = err_from_is_err_and c.from_residual.result c.from_residual.ensures.1 in
    rw (p.1, p.2, refused_first (rtp_checks c.args.source c.args.packet.now) (jpeg_checks (payload c.args.packet.now)) (sym c.in_err-judge.ensures))

pub padding-requires : goal.padding-requires
padding-requires c = let passed : RtpPassed c.args.source c.args.packet.now = rtp_passed _ _ (sym c.in_ok-judge.ensures) in omega arith

pub overflow_sub-payload : goal.overflow_sub-payload
overflow_sub-payload c = let passed : RtpPassed c.args.source c.args.packet.now = rtp_passed _ _ (sym c.in_ok-judge.ensures) in omega arith

pub slice_bounds-payload-start : goal.slice_bounds-payload-start
slice_bounds-payload-start c = let passed : RtpPassed c.args.source c.args.packet.now = rtp_passed _ _ (sym c.in_ok-judge.ensures) in omega arith

pub slice_bounds-payload-end : goal.slice_bounds-payload-end
slice_bounds-payload-end c = let passed : RtpPassed c.args.source c.args.packet.now = rtp_passed _ _ (sym c.in_ok-judge.ensures) in omega arith

pub slice_bounds-payload-count : goal.slice_bounds-payload-count
slice_bounds-payload-count c = let passed : RtpPassed c.args.source c.args.packet.now = rtp_passed _ _ (sym c.in_ok-judge.ensures) in omega arith

pub returns-in_err-judge-2 : goal.returns-in_err-judge-2
unfolding reading payload payload_length
returns-in_err-judge-2 c =
    let p = c.args.packet.now in
    let jpeg-judged : judged (jpeg_checks (payload p)) ≡ Err c.in_err-judge-2.field-0.0 = sym (rw (← c.headers_end-start.ensures, ← c.padding.ensures) c.in_err-judge-2.ensures) in
    let q = err_from_is_err_and c.from_residual-in_err-judge-2.result c.from_residual-in_err-judge-2.ensures.1 in
    rw (q.1, q.2, passed_first (rtp_checks c.args.source p) (jpeg_checks (payload p)) (sym c.in_ok-judge.ensures), jpeg-judged)

pub says-requires : goal.says-requires
unfolding payload payload_length
says-requires c =
    let p = c.args.packet.now in
    let passed : RtpPassed c.args.source p = rtp_passed _ _ (sym c.in_ok-judge.ensures) in
    let jpeg-judged : judged (jpeg_checks (payload p)) ≡ Passed = sym (rw (← c.headers_end-start.ensures, ← c.padding.ensures) c.in_ok-judge-2.ensures) in
    let jpeg = jpeg_passed (payload p) jpeg-judged in record {
      rest = record {
        place = c.headers_end-start.ensures;
        bytes = rw (c.headers_end-start.ensures, c.padding.ensures);
        near = omega arith;
      };
      payload_in_bounds = rw (c.headers_end-start.ensures, c.padding.ensures) (le_of_lt jpeg.scan);
    }

pub returns : goal.returns
unfolding reading payload payload_length
returns c =
    let p = c.args.packet.now in
    let jpeg-judged : judged (jpeg_checks (payload p)) ≡ Passed = sym (rw (← c.headers_end-start.ensures, ← c.padding.ensures) c.in_ok-judge-2.ensures) in
    rw (passed_first (rtp_checks c.args.source p) (jpeg_checks (payload p)) (sym c.in_ok-judge.ensures), jpeg-judged, c.says.ensures)
