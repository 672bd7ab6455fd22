-- Table making's promise. Assumes nothing.
use Rattle.std.specs.Prelude.{ℕ, ◌-◌, ◌*◌, ◌/◌, ◌≤◌, ◌<◌, not, List, [], ◌∷◌, ◌≡◌, length}
use Rattle.std.proofs.Common.{append-nil, ◌∙◌, arith, drop_of_length-le}
use borrow.Author.Tests.{le-ltb, le-leb, lt-leb}
use Rattle.laws.specs.Within.{within, Between, is_within, is_under, is_over}
use Rattle.replies.specs.Checks.{Check, judged, ◌when◌}
use Rattle.replies.specs.declared.Refusal.TheVariants as Refusal
use Rattle.replies.specs.Output.{Decision, Writes, decided}
use Rattle.replies.specs.Output.Decision.{refuse, write}
use Rattle.replies.specs.declared.Written.{Written}
use Rattle.tables.specs.Quantiser.{scale, scaled, tables_of, length_tables}

-- Its check, the room in the output aside: "Q not 1 to 99".
abbrev pub checks : ℕ → List Check
checks q = Refusal.QNotMade when not (within 1 99 q) ∷ []

-- What it decides of a Q.
unfoldable pub tables_for : ℕ → Decision
tables_for q = decided (judged (checks q)) (tables_of q)

-- The outcome of `make_tables`: what it answers of a Q and an output, and the output before and after.
abbrev pub MakesTables : ℕ → List ℕ → Written → List ℕ → Type 0
MakesTables q before w after = Writes Refusal.TablesOutput (tables_for q) before w after

-- ---- laws

module _ (q : ℕ) where
  pub tables_to_50 : 1 ≤ q → q ≤ 50 → tables_for q ≡ write (scaled (5000 / q))
  unfolding tables_for judged tables_of scale
  tables_to_50 a b = rw (is_within 1 99 q a (omega arith), le-leb q 50 b)

  pub tables_from_51 : 50 < q → q ≤ 99 → tables_for q ≡ write (scaled (200 - 2 * q))
  unfolding tables_for judged tables_of scale
  tables_from_51 a b = rw (is_within 1 99 q (omega arith) b, lt-leb q 50 a)

  pub no_tables_under_1 : q < 1 → tables_for q ≡ refuse Refusal.QNotMade
  unfolding tables_for judged
  no_tables_under_1 h = rw (is_under 1 99 q h)

  pub no_tables_over_99 : 99 < q → tables_for q ≡ refuse Refusal.QNotMade
  unfolding tables_for judged
  no_tables_over_99 h = rw (is_over 1 99 q h)

-- into 128 bytes
pub makes_all : (q : ℕ) {before after : List ℕ} {w : Written} → Between 1 99 q → length before ≡ 128 → MakesTables q before w after → after ≡ tables_of q
unfolding tables_for judged
makes_all q {before} {after} {w} b long m =
    let all = length_tables q in
    rw (is_within 1 99 q b.0 b.1, le-ltb (length before) (length (tables_of q)) (omega arith)) at m.output
    ∙ rw (all, drop_of_length-le before {i = 128} (omega arith)) (append-nil (tables_of q))
