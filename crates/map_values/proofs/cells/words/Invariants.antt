use Rattle.std.proofs.Common.{◌≡◌, ◌*◌, ◌++◌, drop}
use Rattle.map_values.specs.Cells.{words_of}
use Rattle.map_values.proofs.cells.words.Given as goal

abbrev pub invariant-loop-i : goal.invariant-loop-i
invariant-loop-i l = l.found.items ++ words_of (drop (4 * l.i) l.bytes) ≡ words_of l.bytes
