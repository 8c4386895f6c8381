use Rattle.std.proofs.Common.{◌≡◌, drop}
use Rattle.std.specs.List.{list_all}
use Rattle.tmx_tree.specs.Properties.{is_hexadecimal}
use Rattle.tmx_tree.proofs.plain_value.are_hexadecimal.Given as goal

abbrev pub invariant-loop-byte : goal.invariant-loop-byte
invariant-loop-byte l = list_all is_hexadecimal (drop l.byte-index l.bytes) ≡ list_all is_hexadecimal l.bytes
