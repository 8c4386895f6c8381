use Rattle.std.proofs.Common.{◌≡◌, ◌≤◌, min, drop, ltb}
use Rattle.std.specs.Char.{digit_value}
use Rattle.std.specs.List.{list_all}
use Rattle.xml_text.specs.Said.{number_from}
use Rattle.xml_text.proofs.said.numbered.Given as goal

abbrev pub invariant-loop-digit : goal.invariant-loop-digit
invariant-loop-digit l = record {
  few : l.number ≤ 0x110000;
  same : min 0x110000 (number_from l.base l.number (drop l.digit-index l.digits)) ≡ min 0x110000 (number_from l.base 0 l.digits);
  digits : list_all (λ b. ltb (digit_value b) l.base) (drop l.digit-index l.digits) ≡ list_all (λ b. ltb (digit_value b) l.base) l.digits;
}
