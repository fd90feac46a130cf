use Rattle.std.proofs.Common.{◌≡◌, ◌<◌, ◌^◌, take, true}
use Rattle.std.specs.List.{list_all}
use Rattle.flux_model.specs.Reading.{is_digit, digits_value}
use Rattle.line_grammar.proofs.number.digits.Given as goal

abbrev pub invariant-loop-byte : goal.invariant-loop-byte
invariant-loop-byte l = record {
  digits : list_all is_digit (take l.byte-index l.word) ≡ true;
  value : l.value ≡ digits_value (take l.byte-index l.word);
  below : l.value < 10 ^ l.byte-index;
}
