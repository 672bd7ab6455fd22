-- Where a picture's quantiser tables come from, by its Q: RFC 2435 sections 3.1.4 and 4.2. Assumes nothing.
use Rattle.std.specs.Prelude.{ℕ, ◌≤◌, ◌<◌, Bool, true, cond, ◌≡◌, refl, eqb}
use Rattle.std.proofs.Math.Bool.{false}
use Rattle.std.proofs.Common.{sym, ◌∙◌, arith}
use borrow.Author.Tests.{eq-eqb, ne_eqb}
use Rattle.laws.specs.Truth.{split, never_both}
use Rattle.laws.specs.Within.{within, Between, is_within, is_under, is_over, between}
use Rattle.wire.specs.declared.TableSource.{TableSource}
use Rattle.wire.specs.declared.TableSource.TheVariants.{Made, KeptOrBrought, AlwaysBrought, Reserved}

-- Q 1 to 99: made by rule. 128 to 254: brought by the picture, or kept from an earlier one of that Q. 255: brought by each picture.
unfoldable pub table_source : ℕ → TableSource
table_source q =
    cond (within 1 99 q) Made
    (cond (within 128 254 q) KeptOrBrought
    (cond (eqb q 255) AlwaysBrought
    Reserved))

abbrev pub is_reserved : TableSource → Bool
is_reserved Made = false
is_reserved KeptOrBrought = false
is_reserved AlwaysBrought = false
is_reserved Reserved = true

abbrev pub is_always_brought : TableSource → Bool
is_always_brought Made = false
is_always_brought KeptOrBrought = false
is_always_brought AlwaysBrought = true
is_always_brought Reserved = false

abbrev pub is_made : TableSource → Bool
is_made Made = true
is_made KeptOrBrought = false
is_made AlwaysBrought = false
is_made Reserved = false

abbrev pub is_kept_or_brought : TableSource → Bool
is_kept_or_brought Made = false
is_kept_or_brought KeptOrBrought = true
is_kept_or_brought AlwaysBrought = false
is_kept_or_brought Reserved = false

-- the first packet of such a picture has a table header
abbrev pub is_in_band : TableSource → Bool
is_in_band Made = false
is_in_band KeptOrBrought = true
is_in_band AlwaysBrought = true
is_in_band Reserved = false

-- The outcome of `table_source`.
abbrev pub TellsSource : ℕ → TableSource → Type 0
TellsSource q s = s ≡ table_source q

-- ---- laws

module _ (q : ℕ) where
  pub reserved_0 : q < 1 → table_source q ≡ Reserved
  unfolding table_source
  reserved_0 h = rw (is_under 1 99 q h, is_under 128 254 q (omega arith), ne_eqb q 255 (λ e. omega arith))

  pub made_to_99 : 1 ≤ q → q ≤ 99 → table_source q ≡ Made
  unfolding table_source
  made_to_99 a b = rw (is_within 1 99 q a b)

  pub reserved_to_127 : 99 < q → q < 128 → table_source q ≡ Reserved
  unfolding table_source
  reserved_to_127 a b = rw (is_over 1 99 q a, is_under 128 254 q b, ne_eqb q 255 (λ e. omega arith))

  pub kept_or_brought_to_254 : 128 ≤ q → q ≤ 254 → table_source q ≡ KeptOrBrought
  unfolding table_source
  kept_or_brought_to_254 a b = rw (is_over 1 99 q (omega arith), is_within 128 254 q a b)

  pub reserved_from_256 : 255 < q → table_source q ≡ Reserved
  unfolding table_source
  reserved_from_256 h = rw (is_over 1 99 q (omega arith), is_over 128 254 q (omega arith), ne_eqb q 255 (λ e. omega arith))

  pub always_brought_255 : q ≡ 255 → table_source q ≡ AlwaysBrought
  unfolding table_source
  always_brought_255 e = rw (is_over 1 99 q (omega arith), is_over 128 254 q (omega arith), eq-eqb q 255 e)

-- and back from the source to the numbers
module _ (q : ℕ) where
  pub made_within : is_made (table_source q) ≡ within 1 99 q
  unfolding table_source
  made_within = split (within 1 99 q) (λ w. rw w) (λ w. rw w (split (within 128 254 q) (λ a. rw a) (λ a. rw a (split (eqb q 255) (λ b. rw b) (λ b. rw b)))))

  pub made_between : is_made (table_source q) ≡ true → Between 1 99 q
  made_between e = between 1 99 q (sym made_within ∙ e)

  pub kept_or_brought_between : is_kept_or_brought (table_source q) ≡ true → Between 128 254 q
  unfolding table_source
  kept_or_brought_between e = split (within 128 254 q) (λ w. between 128 254 q w) (λ w. absurd (never_both e (not_kept w)))
    where
      not_kept : within 128 254 q ≡ false → is_kept_or_brought (table_source q) ≡ false
      not_kept w = rw w (split (within 1 99 q) (λ a. rw a) (λ a. rw a (split (eqb q 255) (λ b. rw b) (λ b. rw b))))

pub in_band_not_made : (s : TableSource) → is_in_band s ≡ true → is_made s ≡ false
in_band_not_made Made e = sym e
in_band_not_made KeptOrBrought e = refl
in_band_not_made AlwaysBrought e = refl
in_band_not_made Reserved e = refl

pub always_in_band : (s : TableSource) → is_always_brought s ≡ true → is_in_band s ≡ true
always_in_band Made e = e
always_in_band KeptOrBrought e = refl
always_in_band AlwaysBrought e = refl
always_in_band Reserved e = e
