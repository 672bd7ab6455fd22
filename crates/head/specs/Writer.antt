-- What a writer's calls leave. Assumes nothing.
use Rattle.std.specs.Prelude.{ℕ, ◌+◌, ◌≤◌, List, [], ◌++◌, ◌≡◌, refl, length}
use Rattle.std.proofs.Common.{◌∙◌, arith}
use Rattle.laws.specs.Put.{PutsUpTo, puts_none, puts_on}
use Rattle.head.specs.declared.writer.Writer.{Writer}

-- So many bytes fit from its place on.
abbrev pub HasRoom : Writer → ℕ → Type 0
HasRoom w n = w.at + n ≤ length w.out.now

-- The output is still the same and as long; the bytes stand there at the place, and the next place is behind them.
pub record Writes (before : Writer) (bytes : List ℕ) (after : Writer) : Type 0 where
  pub same_reference : after.out.ghost_name ≡ before.out.ghost_name
  pub same_length : length after.out.now ≡ length before.out.now
  pub written : PutsUpTo before.out.now before.at bytes after.out.now after.at

-- ---- laws

-- some bytes, and then some behind them
pub writes_on : {before between after : Writer} {a b : List ℕ} → Writes before a between → Writes between b after → before.at ≤ length before.out.now → Writes before (a ++ b) after
writes_on p q h = record {
  same_reference = q.same_reference ∙ p.same_reference;
  same_length = q.same_length ∙ p.same_length;
  written = puts_on p.written q.written h;
}

-- nothing
pub writes_none : (w : Writer) → Writes w [] w
writes_none w = record { same_reference = refl; same_length = refl; written = record { puts = puts_none w.out.now w.at; next = omega arith } }
