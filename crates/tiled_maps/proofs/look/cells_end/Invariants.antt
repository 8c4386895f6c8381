use Rattle.std.proofs.Common.{◌-◌, ◌<◌, ◌≤◌, length, drop}
use Rattle.json.specs.Lex.{lex, between}
use Rattle.tiled_maps.specs.Lexemes.{ArePlain}
use Rattle.tiled_maps.proofs.look.cells_end.Given as goal

abbrev pub invariant-loop-at : goal.invariant-loop-at
invariant-loop-at l = (l.from ≤ l.at) × (l.at < length l.text) × (ArePlain (lex between (drop l.at l.text)) → ArePlain (lex between (drop l.from l.text)))

abbrev pub decreases-loop-at : goal.decreases-loop-at
decreases-loop-at l = length l.text - l.at
