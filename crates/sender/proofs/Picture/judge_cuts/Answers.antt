-- `sender::Picture::judge_cuts` meets its contract: there is a cut k where its place lies in the scan. Assumes nothing.
use Rattle.std.proofs.Common.{ℕ, ◌*◌, ◌+◌, ◌≤◌, length, sym, le-ltb, lt-ltb, le-leb}
use Rattle.std.proofs.lemmas.Bool.{lt-leb}
use Rattle.replies.specs.Checks.{PastFirst, start, passes, fails, none_left}
use Rattle.sender.specs.Cuts.{cuts}
use Rattle.sender.specs.Picture.{Picture}
use Rattle.sender.specs.Sending.{cut_checks}
use Rattle.sender.proofs.Places.{Holds, holding, no_cut, cut_k}
use Rattle.sender.proofs.Picture.judge_cuts.Goals as goal

-- there are not too many packets
few : {size : ℕ} {p : Picture} {rest taken : ℕ} (k : ℕ) → Holds size p rest taken → 1 ≤ length p.scan → taken + length p.scan ≤ 64 * rest → PastFirst 1 (cut_checks (length (cuts size p)) k)
few k measured some h = passes start (le-ltb _ _ (no_cut measured 64 some h))

pub returns-then-capacity-all : goal.returns-then-capacity-all
returns-then-capacity-all c =
    let measured = holding c.requires c.capacity_behind-capacity.ensures c.tables_length.ensures in
    sym (fails start (lt-ltb _ _ (cut_k measured 64 c.requires.scan.0 c.if-capacity-all.true).0))

pub returns-then-all-k : goal.returns-then-all-k
returns-then-all-k c =
    let measured = holding c.requires c.capacity_behind-capacity.ensures c.tables_length.ensures in
    sym (fails (few c.args.k measured c.requires.scan.0 c.if-capacity-all.false) (le-leb _ _ (no_cut measured _ c.requires.scan.0 c.if-all-k.true)))

pub returns : goal.returns
returns c =
    let measured = holding c.requires c.capacity_behind-capacity.ensures c.tables_length.ensures in
    sym (none_left (passes (few c.args.k measured c.requires.scan.0 c.if-capacity-all.false) (lt-leb _ _ (cut_k measured _ c.requires.scan.0 c.if-all-k.false).0)))
