-- `wire::table_header::rule_broken` meets its contract: each test of the code picks a law of `table_rule_broken`. Assumes nothing.
use Rattle.std.proofs.Common.{true, ◌≡◌, sym, ap, ◌∙◌, arith}
use Rattle.laws.specs.Any.{any}
use Rattle.wire.specs.Restart.{restart_end_small}
use Rattle.wire.specs.Tables.{has_table_header, precision, is_zero, rule_without, rule_wide, rule_none, rule_full, rule_other}
use Rattle.wire.proofs.table_header.rule_broken.Goals as goal

pub returns-then-not-has_table_header : goal.returns-then-not-has_table_header
returns-then-not-has_table_header c = sym (rule_without _ (sym c.has_table_header.ensures ∙ c.if-not-has_table_header.true))

pub overflow_add-restart_end : goal.overflow_add-restart_end
overflow_add-restart_end c = omega (arith, restart_end_small c.args.payload.now)

pub returns-then-byte_at-ne0 : goal.returns-then-byte_at-ne0
unfolding precision
returns-then-byte_at-ne0 c =
    let header : has_table_header c.args.payload.now ≡ true = sym c.has_table_header.ensures ∙ c.if-not-has_table_header.false in
    sym (rule_wide _ header (rw (← c.restart_end.ensures, ← c.byte_at.ensures) c.if-byte_at-ne0.true))

pub returns-in-0 : goal.returns-in-0
unfolding precision
returns-in-0 c =
    let header : has_table_header c.args.payload.now ≡ true = sym c.has_table_header.ensures ∙ c.if-not-has_table_header.false in
    let narrow : precision c.args.payload.now ≡ 0 = rw (← c.restart_end.ensures, ← c.byte_at.ensures) c.if-byte_at-ne0.false in
    c.always_brought.ensures ∙ sym (rule_none _ header narrow (sym c.requires.tables_len ∙ c.in-0.is))

pub returns-in-128 : goal.returns-in-128
unfolding precision
returns-in-128 c =
    let header : has_table_header c.args.payload.now ≡ true = sym c.has_table_header.ensures ∙ c.if-not-has_table_header.false in
    let narrow : precision c.args.payload.now ≡ 0 = rw (← c.restart_end.ensures, ← c.byte_at.ensures) c.if-byte_at-ne0.false in
    c.contains.ensures.value ∙ ap (any is_zero) c.requires.tables_value ∙ sym (rule_full _ header narrow (sym c.requires.tables_len ∙ c.in-128.is))

pub returns-in_default : goal.returns-in_default
unfolding precision
returns-in_default c =
    let header : has_table_header c.args.payload.now ≡ true = sym c.has_table_header.ensures ∙ c.if-not-has_table_header.false in
    let narrow : precision c.args.payload.now ≡ 0 = rw (← c.restart_end.ensures, ← c.byte_at.ensures) c.if-byte_at-ne0.false in
    sym (rule_other _ header narrow (λ e. omega arith) (λ e. omega arith))
