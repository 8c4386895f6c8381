use Rattle.std.proofs.Common.{◌≡◌}
use Rattle.infinite_maps.specs.Pasted.{pasted_to}
use Rattle.infinite_maps.proofs.pasting.paste.Given as goal

abbrev pub invariant-loop-k : goal.invariant-loop-k
invariant-loop-k l = l.cells ≡ pasted_to l.columns l.rectangle l.own l.k l.initial.cells
