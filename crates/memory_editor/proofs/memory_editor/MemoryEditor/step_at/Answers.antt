use Rattle.std.proofs.Common.{sym}
use Rattle.memory_editor.proofs.memory_editor.MemoryEditor.step_at.Goals as goal

pub returns-in-Some-clause-differs : goal.returns-in-Some-clause-differs
returns-in-Some-clause-differs c = rw (sym c.in-Some.ensures.active) c.step_in.ensures.differs
