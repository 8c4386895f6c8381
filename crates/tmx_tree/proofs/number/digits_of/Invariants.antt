use Rattle.std.proofs.Common.{◌≡◌, ◌<◌, ◌^◌, drop}
use Rattle.tmx_tree.specs.Numbers.{digits_from}
use Rattle.tmx_tree.proofs.number.digits_of.Given as goal

abbrev pub invariant-loop-byte : goal.invariant-loop-byte
invariant-loop-byte l = record {
  fits : l.number < 2 ^ 32;
  same : digits_from l.number (drop l.byte-index l.digits) ≡ digits_from 0 l.digits;
}
