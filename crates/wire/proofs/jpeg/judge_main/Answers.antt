-- `wire::jpeg::judge_main` meets its contract: each test of the code decides the next check of the list. Assumes nothing.
use Rattle.std.proofs.Common.{ℕ, ◌≤◌, List, length, false, lt-ltb, le-ltb, eq-eqb, ne_eqb, ◌≡◌, sym, ◌∙◌}
use Rattle.laws.specs.Truth.{same, other, or_true}
use Rattle.replies.specs.Checks.{PastFirst, start, passes, fails, none_left}
use Rattle.wire.specs.Kind.{restarts_of, is_not_carried}
use Rattle.wire.specs.Main.{main}
use Rattle.wire.specs.Reading.{main_checks}
use Rattle.wire.specs.TableSource.{table_source, is_reserved}
use Rattle.wire.proofs.jpeg.judge_main.Goals as goal
use Rattle.wire.proofs.jpeg.judge_main.Goals.{then-byte_at-eq0-via-then-byte_at-eq0, then-byte_at-eq0-via-else-byte_at-eq0+then-byte_at-eq0-2}

pub returns-then-payload-lt8 : goal.returns-then-payload-lt8
returns-then-payload-lt8 c = sym (fails start (lt-ltb _ _ c.if-payload-lt8.true))

pub returns-then-other_type : goal.returns-then-other_type
returns-then-other_type c =
    let passed-1 : PastFirst 1 (main_checks c.args.payload.now) = passes start (le-ltb _ _ c.if-payload-lt8.false) in
    let type-judged : is_not_carried (restarts_of (main c.args.payload.now).kind) ≡ c.has_other_type-other_type.result = sym c.has_other_type-other_type.ensures in
    sym (fails passed-1 (type-judged ∙ c.if-other_type.true))

pub returns-then-type_specific : goal.returns-then-type_specific
returns-then-type_specific c =
    let passed-1 : PastFirst 1 (main_checks c.args.payload.now) = passes start (le-ltb _ _ c.if-payload-lt8.false) in
    let type-judged : is_not_carried (restarts_of (main c.args.payload.now).kind) ≡ c.has_other_type-other_type.result = sym c.has_other_type-other_type.ensures in
    let passed-2 : PastFirst 2 (main_checks c.args.payload.now) = passes passed-1 (type-judged ∙ c.if-other_type.false) in
    sym (fails passed-2 (other _ _ (rw c.byte_at-type_specific.ensures at c.if-type_specific.true)))

pub returns-then-reserved_q : goal.returns-then-reserved_q
returns-then-reserved_q c =
    let passed-1 : PastFirst 1 (main_checks c.args.payload.now) = passes start (le-ltb _ _ c.if-payload-lt8.false) in
    let type-judged : is_not_carried (restarts_of (main c.args.payload.now).kind) ≡ c.has_other_type-other_type.result = sym c.has_other_type-other_type.ensures in
    let passed-2 : PastFirst 2 (main_checks c.args.payload.now) = passes passed-1 (type-judged ∙ c.if-other_type.false) in
    let passed-3 : PastFirst 3 (main_checks c.args.payload.now) = passes passed-2 (same _ _ (rw c.byte_at-type_specific.ensures at c.if-type_specific.false)) in
    let q-judged : is_reserved (table_source (main c.args.payload.now).q) ≡ c.has_reserved_q-reserved_q.result = sym c.has_reserved_q-reserved_q.ensures in
    sym (fails passed-3 (q-judged ∙ c.if-reserved_q.true))

-- past the check of the Q
module _ (b : List ℕ) (long : 8 ≤ length b) (type : is_not_carried (restarts_of (main b).kind) ≡ false) (specific : (main b).specific ≡ 0) (q : is_reserved (table_source (main b).q) ≡ false) where
  sides_left : PastFirst 4 (main_checks b)
  sides_left = passes (passes (passes (passes start (le-ltb _ _ long)) type) (same _ _ specific)) q

pub returns-then-byte_at-eq0 : goal.returns-then-byte_at-eq0
returns-then-byte_at-eq0 c =
    let b = c.args.payload.now in
    let left = sides_left b c.if-payload-lt8.false (sym c.if-other_type.ensures) (sym c.byte_at-type_specific.ensures ∙ c.if-type_specific.false) (sym c.if-reserved_q.ensures) in
    sym (fails left (elim c.then-byte_at-eq0.branch [
      | then-byte_at-eq0-via-then-byte_at-eq0 w ↦ rw (eq-eqb (main b).width 0 (sym c.byte_at.ensures ∙ w.if-byte_at-eq0.true))
      | then-byte_at-eq0-via-else-byte_at-eq0+then-byte_at-eq0-2 w ↦ rw (eq-eqb (main b).height 0 (sym w.byte_at-else-byte_at-eq0.ensures ∙ w.if-byte_at-eq0-2.true)) (or_true _)
    ]))

pub returns : goal.returns
returns c =
    let b = c.args.payload.now in
    let left = sides_left b c.if-payload-lt8.false (sym c.if-other_type.ensures) (sym c.byte_at-type_specific.ensures ∙ c.if-type_specific.false) (sym c.if-reserved_q.ensures) in
    sym (none_left (passes left (rw (ne_eqb (main b).width 0 (λ e. c.if-byte_at-eq0.false (c.byte_at.ensures ∙ e)), ne_eqb (main b).height 0 (λ e. c.if-byte_at-eq0-2.false (c.byte_at-else-byte_at-eq0.ensures ∙ e))))))
