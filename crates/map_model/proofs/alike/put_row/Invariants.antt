use Rattle.std.proofs.Common.{◌≡◌, ◌-◌}
use Rattle.map_model.proofs.SideBySide.{set_from}
use Rattle.map_model.proofs.alike.put_row.Given as goal

abbrev pub invariant-loop-at : goal.invariant-loop-at
invariant-loop-at l = set_from l.value l.at (l.at-end - l.at) l.values ≡ set_from l.value l.from (l.at-end - l.from) l.initial.values
