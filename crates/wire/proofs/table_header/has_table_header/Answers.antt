-- `wire::table_header::has_table_header` meets its contract. Assumes nothing.
use Rattle.std.proofs.Common.{sym, ◌∙◌, eq-eqb, ne_eqb}
use Rattle.wire.specs.Main.{main}
use Rattle.wire.specs.Tables.{has_table_header}
use Rattle.wire.proofs.table_header.has_table_header.Goals as goal

pub returns-then-number_at-eq0 : goal.returns-then-number_at-eq0
unfolding has_table_header
returns-then-number_at-eq0 c = rw (eq-eqb (main c.args.payload.now).offset 0 (sym c.number_at.ensures ∙ c.if-number_at-eq0.true)) c.is_in_band.ensures

pub returns-else-number_at-eq0 : goal.returns-else-number_at-eq0
unfolding has_table_header
returns-else-number_at-eq0 c = rw (ne_eqb (main c.args.payload.now).offset 0 (λ e. c.if-number_at-eq0.false (c.number_at.ensures ∙ e)), ne_eqb c.number_at.result 0 c.if-number_at-eq0.false)
