use Rattle.std.proofs.Common.{◌≡◌, ◌≤◌, true, take}
use Rattle.std.specs.Str.{all_ascii_digits}
use Rattle.std.specs.Str.Parse.{digits_value}
use Rattle.sipl_records.proofs.number.read_number.Given as goal

abbrev pub invariant-loop-octet : goal.invariant-loop-octet
invariant-loop-octet l = record {
  digits : all_ascii_digits (take l.octet-index l.text) ≡ true;
  so_far : l.value ≡ digits_value 10 (take l.octet-index l.text);
  within : l.value ≤ l.max;
}
