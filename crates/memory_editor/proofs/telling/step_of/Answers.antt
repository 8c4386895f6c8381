use Rattle.std.proofs.Common.{refl}
use Rattle.memory_editor.proofs.Shown.{on-map}
use Rattle.memory_editor.proofs.telling.step_of.Goals as goal

pub returns-clause-differs : goal.returns-clause-differs
returns-clause-differs c = on-map c.args.map.now c.args.seen.differences _ refl refl c.cells_within-cells.ensures
