use Rattle.std.proofs.Common.{◌≡◌, ◌-◌, ◌^◌}
use Rattle.edits.proofs.KnownValues.{lowest_of}
use Rattle.edits.proofs.layer.lowest_first_id.Given as goal

abbrev pub invariant-loop-tileset : goal.invariant-loop-tileset
invariant-loop-tileset l = lowest_of l.lowest l.tileset-iterator ≡ lowest_of (2 ^ 32 - 1) l.initial.tileset-iterator
