use Rattle.std.proofs.Common.{sym}
use Rattle.document_lines.proofs.planning.member_plans.planned.Goals as goal

pub returns-in-Ok-new : goal.returns-in-Ok-new
returns-in-Ok-new g c = rw (c.in-Ok.is, sym c.in-Ok-new.ensures.ok) c.into_edit.ensures
