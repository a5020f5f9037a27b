use Rattle.std.proofs.Common.{◌≡◌, true, take}
use Rattle.std.specs.Char.{is_ascii_digit}
use Rattle.std.specs.List.{list_all}
use Rattle.cf_reference.specs.Words.{decimal_value}
use Rattle.cf_script.proofs.numbers.short_natural.Given as goal

abbrev pub invariant-loop-digit : goal.invariant-loop-digit
invariant-loop-digit l = record {
  value : l.value ≡ decimal_value (take l.digit-index l.word);
  digits : list_all is_ascii_digit (take l.digit-index l.word) ≡ true;
}
