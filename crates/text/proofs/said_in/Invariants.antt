-- The characters so far are digits, and the value is what they are worth, which 32 bits hold.
use Rattle.std.proofs.Common.{◌<◌, ◌≡◌, true, take}
use Rattle.laws.specs.All.{all}
use Rattle.text.specs.Number.{is_digit, value}
use Rattle.text.proofs.said_in.Given as goal

abbrev pub invariant-loop-character : goal.invariant-loop-character
invariant-loop-character l = record {
  digits : all (is_digit l.base) (take l.character-index l.digits) ≡ true;
  value : l.value ≡ value l.base (take l.character-index l.digits);
  fits : l.value < 4294967296;
}
