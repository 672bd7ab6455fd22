-- `wire::rtp::judge` meets its contract: each test of the code decides the next check of the list. Assumes nothing.
use Rattle.std.proofs.Common.{lt-ltb, le-ltb, sym, ◌∙◌}
use Rattle.laws.specs.Truth.{same, other}
use Rattle.replies.specs.Checks.{PastFirst, start, passes, fails, none_left}
use Rattle.wire.specs.Reading.{rtp_checks}
use Rattle.wire.proofs.rtp.judge.Goals as goal

pub returns-then-packet-gt2048 : goal.returns-then-packet-gt2048
returns-then-packet-gt2048 c = sym (fails start (lt-ltb _ _ c.if-packet-gt2048.true))

pub returns-then-packet-lt12 : goal.returns-then-packet-lt12
returns-then-packet-lt12 c =
    let passed-1 : PastFirst 1 (rtp_checks c.args.source c.args.packet.now) = passes start (le-ltb _ _ c.if-packet-gt2048.false) in
    sym (fails passed-1 (lt-ltb _ _ c.if-packet-lt12.true))

pub returns-then-byte_at-ne2 : goal.returns-then-byte_at-ne2
returns-then-byte_at-ne2 c =
    let passed-1 : PastFirst 1 (rtp_checks c.args.source c.args.packet.now) = passes start (le-ltb _ _ c.if-packet-gt2048.false) in
    let passed-2 : PastFirst 2 (rtp_checks c.args.source c.args.packet.now) = passes passed-1 (le-ltb _ _ c.if-packet-lt12.false) in
    sym (fails passed-2 (other _ _ (rw c.byte_at.ensures at c.if-byte_at-ne2.true)))

pub returns-then-byte_at-ne26 : goal.returns-then-byte_at-ne26
returns-then-byte_at-ne26 c =
    let passed-1 : PastFirst 1 (rtp_checks c.args.source c.args.packet.now) = passes start (le-ltb _ _ c.if-packet-gt2048.false) in
    let passed-2 : PastFirst 2 (rtp_checks c.args.source c.args.packet.now) = passes passed-1 (le-ltb _ _ c.if-packet-lt12.false) in
    let passed-3 : PastFirst 3 (rtp_checks c.args.source c.args.packet.now) = passes passed-2 (same _ _ (rw c.byte_at.ensures at c.if-byte_at-ne2.false)) in
    sym (fails passed-3 (other _ _ (rw c.byte_at-2.ensures at c.if-byte_at-ne26.true)))

pub returns-then-number_at-source : goal.returns-then-number_at-source
returns-then-number_at-source c =
    let passed-1 : PastFirst 1 (rtp_checks c.args.source c.args.packet.now) = passes start (le-ltb _ _ c.if-packet-gt2048.false) in
    let passed-2 : PastFirst 2 (rtp_checks c.args.source c.args.packet.now) = passes passed-1 (le-ltb _ _ c.if-packet-lt12.false) in
    let passed-3 : PastFirst 3 (rtp_checks c.args.source c.args.packet.now) = passes passed-2 (same _ _ (rw c.byte_at.ensures at c.if-byte_at-ne2.false)) in
    let passed-4 : PastFirst 4 (rtp_checks c.args.source c.args.packet.now) = passes passed-3 (same _ _ (rw c.byte_at-2.ensures at c.if-byte_at-ne26.false)) in
    sym (fails passed-4 (other _ _ (rw c.number_at.ensures at c.if-number_at-source.true)))

pub returns-then-packet-end : goal.returns-then-packet-end
returns-then-packet-end c =
    let passed-1 : PastFirst 1 (rtp_checks c.args.source c.args.packet.now) = passes start (le-ltb _ _ c.if-packet-gt2048.false) in
    let passed-2 : PastFirst 2 (rtp_checks c.args.source c.args.packet.now) = passes passed-1 (le-ltb _ _ c.if-packet-lt12.false) in
    let passed-3 : PastFirst 3 (rtp_checks c.args.source c.args.packet.now) = passes passed-2 (same _ _ (rw c.byte_at.ensures at c.if-byte_at-ne2.false)) in
    let passed-4 : PastFirst 4 (rtp_checks c.args.source c.args.packet.now) = passes passed-3 (same _ _ (rw c.byte_at-2.ensures at c.if-byte_at-ne26.false)) in
    let passed-5 : PastFirst 5 (rtp_checks c.args.source c.args.packet.now) = passes passed-4 (same _ _ (sym c.number_at.ensures ∙ c.if-number_at-source.false)) in
    sym (fails passed-5 (lt-ltb _ _ (rw c.headers_end-end.ensures at c.if-packet-end.true)))

pub returns-then-padding_broken : goal.returns-then-padding_broken
returns-then-padding_broken c =
    let passed-1 : PastFirst 1 (rtp_checks c.args.source c.args.packet.now) = passes start (le-ltb _ _ c.if-packet-gt2048.false) in
    let passed-2 : PastFirst 2 (rtp_checks c.args.source c.args.packet.now) = passes passed-1 (le-ltb _ _ c.if-packet-lt12.false) in
    let passed-3 : PastFirst 3 (rtp_checks c.args.source c.args.packet.now) = passes passed-2 (same _ _ (rw c.byte_at.ensures at c.if-byte_at-ne2.false)) in
    let passed-4 : PastFirst 4 (rtp_checks c.args.source c.args.packet.now) = passes passed-3 (same _ _ (rw c.byte_at-2.ensures at c.if-byte_at-ne26.false)) in
    let passed-5 : PastFirst 5 (rtp_checks c.args.source c.args.packet.now) = passes passed-4 (same _ _ (sym c.number_at.ensures ∙ c.if-number_at-source.false)) in
    let passed-6 : PastFirst 6 (rtp_checks c.args.source c.args.packet.now) = passes passed-5 (le-ltb _ _ (rw c.headers_end-end.ensures at c.if-packet-end.false)) in
    sym (fails passed-6 (sym c.padding_broken.ensures ∙ c.if-padding_broken.true))

pub returns : goal.returns
returns c =
    let passed-1 : PastFirst 1 (rtp_checks c.args.source c.args.packet.now) = passes start (le-ltb _ _ c.if-packet-gt2048.false) in
    let passed-2 : PastFirst 2 (rtp_checks c.args.source c.args.packet.now) = passes passed-1 (le-ltb _ _ c.if-packet-lt12.false) in
    let passed-3 : PastFirst 3 (rtp_checks c.args.source c.args.packet.now) = passes passed-2 (same _ _ (rw c.byte_at.ensures at c.if-byte_at-ne2.false)) in
    let passed-4 : PastFirst 4 (rtp_checks c.args.source c.args.packet.now) = passes passed-3 (same _ _ (rw c.byte_at-2.ensures at c.if-byte_at-ne26.false)) in
    let passed-5 : PastFirst 5 (rtp_checks c.args.source c.args.packet.now) = passes passed-4 (same _ _ (sym c.number_at.ensures ∙ c.if-number_at-source.false)) in
    let passed-6 : PastFirst 6 (rtp_checks c.args.source c.args.packet.now) = passes passed-5 (le-ltb _ _ (rw c.headers_end-end.ensures at c.if-packet-end.false)) in
    sym (none_left (passes passed-6 (sym c.padding_broken.ensures ∙ c.if-padding_broken.false)))
