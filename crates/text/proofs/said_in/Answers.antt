-- `text::said_in` meets its contract: a character that is no digit and a value that is too large are refused where they are met, and
-- every other text is read to its end. Assumes nothing.
use Rattle.std.proofs.Common.{◌≡◌, ◌∙◌, get_or, arith, rules}
use Rattle.std.specs.Char.{digit_value}
use Rattle.text.proofs.Reading.{value_more, digits_more, no_digit, too_large, nothing, whole}
use Rattle.text.proofs.said_in.Goals as goal

pub returns-then-is_empty : goal.returns-then-is_empty
returns-then-is_empty c = nothing c.args.base c.args.digits.now (search rules)

pub returns-in_err-digit : goal.returns-in_err-digit
returns-in_err-digit c =
    let i = c.loop-character.character-index in
    let here : digit_value (get_or c.args.digits.now i 0) ≡ digit_value c.from.result = cc in
    c.from_residual.ensures ∙ no_digit c.args.base c.args.digits.now i c.loop-character-test.true (omega (arith, c.in_err-digit.ensures.value))

pub returns-in_err-checked_mul : goal.returns-in_err-checked_mul
returns-in_err-checked_mul c =
    let i = c.loop-character.character-index in
    c.from_residual-in_err-checked_mul.ensures ∙ too_large c.args.base c.args.digits.now i c.loop-character-test.true (omega arith) c.loop-character.invariant.value (omega (arith, c.in_err-checked_mul.ensures))

pub returns-in_err-value : goal.returns-in_err-value
returns-in_err-value c =
    let i = c.loop-character.character-index in
    let here : digit_value (get_or c.args.digits.now i 0) ≡ digit_value c.from.result = cc in
    c.from_residual-in_err-value.ensures ∙ too_large c.args.base c.args.digits.now i c.loop-character-test.true (omega arith) c.loop-character.invariant.value (omega (arith, c.in_err-value.ensures, c.in_ok-checked_mul.ensures, c.in_ok-digit.ensures.value))

pub loop-character-preserved : goal.loop-character-preserved
loop-character-preserved c =
    let i = c.loop-character.character-index in
    let here : digit_value (get_or c.args.digits.now i 0) ≡ digit_value c.from.result = cc in
    record {
      digits = digits_more c.args.base c.args.digits.now i c.loop-character-test.true (omega (arith, c.in_ok-digit.ensures.value)) c.loop-character.invariant.digits;
      value = omega (arith, value_more c.args.base c.args.digits.now i c.loop-character-test.true c.loop-character.invariant.value, c.in_ok-value.ensures, c.in_ok-checked_mul.ensures, c.in_ok-digit.ensures.value);
      fits = omega (arith, c.in_ok-value.ensures);
    }

pub returns : goal.returns
returns c =
    whole c.args.base c.args.digits.now (search rules) c.loop-character-test.false c.loop-character.invariant.digits c.loop-character.invariant.value (omega arith)
