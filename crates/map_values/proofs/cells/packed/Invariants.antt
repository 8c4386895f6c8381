use Rattle.std.proofs.Common.{◌≡◌}
use Rattle.map_values.proofs.cells.packed.Given as goal

abbrev pub invariant-loop-byte : goal.invariant-loop-byte
invariant-loop-byte l = l.packed.items ≡ l.yielded
