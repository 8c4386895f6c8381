use Rattle.std.proofs.Common.{ap}
use Rattle.member_commands.specs.Changes.{set_value_change}
use Rattle.document_lines.proofs.SameChanges.{same-IsSame}
use Rattle.document_lines.proofs.planning.member_plans.planned_tileset.Goals as goal

pub returns-in-Ok : goal.returns-in-Ok
returns-in-Ok c = rw (c.in-Ok-Value.is, c.in-Ok-Value.field-0-is) (same-IsSame _ _ (ap set_value_change c.in-Ok.ensures.ok))
