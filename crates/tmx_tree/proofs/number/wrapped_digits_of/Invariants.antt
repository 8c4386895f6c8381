use Rattle.std.proofs.Common.{◌≡◌, ◌<◌, ◌^◌, drop}
use Rattle.tmx_tree.specs.Numbers.{wrapped_from}
use Rattle.tmx_tree.proofs.number.wrapped_digits_of.Given as goal

abbrev pub invariant-loop-byte : goal.invariant-loop-byte
invariant-loop-byte l = record {
  fits : l.number < 2 ^ 32;
  same : wrapped_from l.number (drop l.byte-index l.digits) ≡ wrapped_from 0 l.digits;
}
