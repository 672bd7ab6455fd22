-- What the type of a picture says of its restart intervals: RFC 2435 sections 3.1.3 and 4.1. Assumes nothing.
use Rattle.std.specs.Prelude.{ℕ, ◌≤◌, ◌<◌, Bool, true, false, cond, ◌≡◌}
use Rattle.std.proofs.Common.{arith}
use Rattle.laws.specs.Within.{within, is_within, is_under, is_over}
use Rattle.wire.specs.declared.Restarts.{Restarts}
use Rattle.wire.specs.declared.Restarts.TheVariants.{Absent, Present, NotCarried}

-- Types 0 and 1 have none, types 64 and 65 are the same two with restart intervals, and no other type is carried.
unfoldable pub restarts_of : ℕ → Restarts
restarts_of kind = cond (within 0 1 kind) Absent (cond (within 64 65 kind) Present NotCarried)

abbrev pub is_not_carried : Restarts → Bool
is_not_carried Absent = false
is_not_carried Present = false
is_not_carried NotCarried = true

abbrev pub are_present : Restarts → Bool
are_present Absent = false
are_present Present = true
are_present NotCarried = false

-- The outcome of `restarts_of`.
abbrev pub TellsRestarts : ℕ → Restarts → Type 0
TellsRestarts kind r = r ≡ restarts_of kind

-- ---- laws

module _ (kind : ℕ) where
  pub absent_to_1 : kind ≤ 1 → restarts_of kind ≡ Absent
  unfolding restarts_of
  absent_to_1 h = rw (is_within 0 1 kind (omega arith) h)

  pub not_carried_to_63 : 1 < kind → kind < 64 → restarts_of kind ≡ NotCarried
  unfolding restarts_of
  not_carried_to_63 a b = rw (is_over 0 1 kind a, is_under 64 65 kind b)

  pub present_64_65 : 64 ≤ kind → kind ≤ 65 → restarts_of kind ≡ Present
  unfolding restarts_of
  present_64_65 a b = rw (is_over 0 1 kind (omega arith), is_within 64 65 kind a b)

  pub not_carried_from_66 : 65 < kind → restarts_of kind ≡ NotCarried
  unfolding restarts_of
  not_carried_from_66 h = rw (is_over 0 1 kind (omega arith), is_over 64 65 kind h)
