-- Header fields such as the reader can give. Assumes nothing.
use Rattle.std.specs.Prelude.{ℕ, ◌≤◌, Bool, true, false, not, ◌&&◌, ◌≡◌, refl, ltb, eqb}
use Rattle.std.proofs.Common.{sym, arith, ltb-true, ltb-false, eqb-true, eq-eqb}
use Rattle.std.proofs.lemmas.Bool.{not-true}
use Rattle.laws.specs.Truth.{split, never_both, and_true}
use Rattle.laws.specs.Within.{within, Between, is_within, between}
use Rattle.wire.specs.Kind.{restarts_of, is_not_carried, are_present, not_carried_from_66}
use Rattle.wire.specs.TableSource.{table_source, is_reserved, reserved_from_256}
use Rattle.wire.specs.declared.Header.{Header}
use Rattle.wire.specs.declared.Restarts.{Restarts}
use Rattle.wire.specs.declared.Restarts.TheVariants.{Absent, Present, NotCarried}

pub record Lawful (h : Header) : Type 0 where
  pub kind : is_not_carried (restarts_of h.kind) ≡ false
  pub q : is_reserved (table_source h.q) ≡ false
  pub width : Between 1 255 h.width
  pub height : Between 1 255 h.height
  pub interval : are_present (restarts_of h.kind) ≡ true → Between 1 65535 h.interval
  pub no_interval : are_present (restarts_of h.kind) ≡ false → h.interval ≡ 0

-- Whether a type's pictures have such an interval.
abbrev pub has_interval : Restarts → ℕ → Bool
has_interval Absent interval = eqb interval 0
has_interval Present interval = within 1 65535 interval
has_interval NotCarried interval = false

-- The same as a test: Q, the sides, and the type with its interval.
unfoldable pub is_lawful : Header → Bool
is_lawful h =
    not (is_reserved (table_source h.q))
    && within 1 255 h.width
    && within 1 255 h.height
    && has_interval (restarts_of h.kind) h.interval

-- The outcome of `is_lawful`.
abbrev pub TellsLawful : Header → Bool → Type 0
TellsLawful h b = b ≡ is_lawful h

-- ---- laws

module _ (interval : ℕ) where
  carried : (r : Restarts) → has_interval r interval ≡ true → is_not_carried r ≡ false
  carried Absent e = refl
  carried Present e = refl
  carried NotCarried e = sym e

  present : (r : Restarts) → has_interval r interval ≡ true → are_present r ≡ true → Between 1 65535 interval
  present Absent e a = absurd (never_both a refl)
  present Present e a = between 1 65535 interval e
  present NotCarried e a = absurd (never_both a refl)

  absent : (r : Restarts) → has_interval r interval ≡ true → are_present r ≡ false → interval ≡ 0
  absent Absent e a = eqb-true interval 0 e
  absent Present e a = absurd (never_both refl a)
  absent NotCarried e a = absurd (never_both e refl)

pub lawful : (h : Header) → is_lawful h ≡ true → Lawful h
unfolding is_lawful
lawful h e =
    let sides = and_true (not (is_reserved (table_source h.q)) && within 1 255 h.width && within 1 255 h.height) (has_interval (restarts_of h.kind) h.interval) e in
    let width = and_true (not (is_reserved (table_source h.q)) && within 1 255 h.width) (within 1 255 h.height) sides.0 in
    let q = and_true (not (is_reserved (table_source h.q))) (within 1 255 h.width) width.0 in
    record {
      kind = carried h.interval (restarts_of h.kind) sides.1;
      q = not-true (is_reserved (table_source h.q)) q.0;
      width = between 1 255 h.width q.1;
      height = between 1 255 h.height width.1;
      interval = present h.interval (restarts_of h.kind) sides.1;
      no_interval = absent h.interval (restarts_of h.kind) sides.1;
    }

interval_told : (r : Restarts) (interval : ℕ) → is_not_carried r ≡ false → (are_present r ≡ true → Between 1 65535 interval) → (are_present r ≡ false → interval ≡ 0) → has_interval r interval ≡ true
interval_told Absent interval c some none = eq-eqb interval 0 (none refl)
interval_told Present interval c some none = is_within 1 65535 interval (some refl).0 (some refl).1
interval_told NotCarried interval c some none = sym c

pub lawful_told : (h : Header) → Lawful h → is_lawful h ≡ true
unfolding is_lawful
lawful_told h l =
    rw (l.q, is_within 1 255 h.width l.width.0 l.width.1, is_within 1 255 h.height l.height.0 l.height.1)
    (interval_told (restarts_of h.kind) h.interval l.kind l.interval l.no_interval)

-- each of them is a byte on the wire, but the interval, which is two
module _ {h : Header} (l : Lawful h) where
  pub kind_small : h.kind ≤ 65
  kind_small =
      split (ltb 65 h.kind)
      (λ e. absurd (never_both refl (rw (not_carried_from_66 h.kind (ltb-true 65 h.kind e)) at l.kind)))
      (λ e. ltb-false 65 h.kind e)

  pub q_small : h.q ≤ 255
  q_small =
      split (ltb 255 h.q)
      (λ e. absurd (never_both refl (rw (reserved_from_256 h.q (ltb-true 255 h.q e)) at l.q)))
      (λ e. ltb-false 255 h.q e)

  pub interval_small : h.interval ≤ 65535
  interval_small =
      split (are_present (restarts_of h.kind))
      (λ e. (l.interval e).1)
      (λ e. omega (arith, l.no_interval e))
