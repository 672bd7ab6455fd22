-- `wire::table_header::judge_tables` meets its contract: each test of the code decides the next check of the list. Assumes nothing.
use Rattle.std.proofs.Common.{lt-ltb, le-ltb, eq-eqb, ne_eqb, sym, ◌∙◌, arith, length-take, length-drop}
use Rattle.std.proofs.Math.Nat.{add-sub_cancel_left}
use Rattle.replies.specs.Checks.{PastFirst, start, passes, fails, none_left}
use Rattle.wire.specs.Reading.{table_checks}
use Rattle.wire.specs.Tables.{scan_at, tables_at_small}
use Rattle.wire.proofs.table_header.judge_tables.Goals as goal

pub overflow_add-end : goal.overflow_add-end
overflow_add-end c = omega (arith, tables_at_small c.args.payload.now)

pub returns-then-payload-end : goal.returns-then-payload-end
unfolding scan_at
returns-then-payload-end c = sym (fails start (lt-ltb _ _ (rw (c.tables_length.ensures, c.tables_at-at.ensures) at c.if-payload-end.true)))

pub rule_broken-requires : goal.rule_broken-requires
rule_broken-requires c = record { tables_value = rw (c.tables_at-at.ensures, c.tables_length.ensures, add-sub_cancel_left); tables_len = simp (length-take, length-drop) (omega arith) }

pub returns-then-rule_broken : goal.returns-then-rule_broken
unfolding scan_at
returns-then-rule_broken c =
    let passed-1 : PastFirst 1 (table_checks c.args.payload.now) = passes start (le-ltb _ _ (rw (c.tables_length.ensures, c.tables_at-at.ensures) at c.if-payload-end.false)) in
    sym (fails passed-1 (sym c.rule_broken.ensures ∙ c.if-rule_broken.true))

pub returns-then-payload-end-2 : goal.returns-then-payload-end-2
unfolding scan_at
returns-then-payload-end-2 c =
    let passed-1 : PastFirst 1 (table_checks c.args.payload.now) = passes start (le-ltb _ _ (rw (c.tables_length.ensures, c.tables_at-at.ensures) at c.if-payload-end.false)) in
    let passed-2 : PastFirst 2 (table_checks c.args.payload.now) = passes passed-1 (sym c.rule_broken.ensures ∙ c.if-rule_broken.false) in
    sym (fails passed-2 (eq-eqb _ _ (rw (c.tables_length.ensures, c.tables_at-at.ensures) at c.if-payload-end-2.true)))

pub returns : goal.returns
unfolding scan_at
returns c =
    let passed-1 : PastFirst 1 (table_checks c.args.payload.now) = passes start (le-ltb _ _ (rw (c.tables_length.ensures, c.tables_at-at.ensures) at c.if-payload-end.false)) in
    let passed-2 : PastFirst 2 (table_checks c.args.payload.now) = passes passed-1 (sym c.rule_broken.ensures ∙ c.if-rule_broken.false) in
    sym (none_left (passes passed-2 (ne_eqb _ _ (rw (c.tables_length.ensures, c.tables_at-at.ensures) at c.if-payload-end-2.false))))
