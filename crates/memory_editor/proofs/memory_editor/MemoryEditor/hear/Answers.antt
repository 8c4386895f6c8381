use Rattle.std.proofs.Common.{refl}
use Rattle.memory_editor.proofs.memory_editor.MemoryEditor.hear.Goals as goal

pub returns : goal.returns
returns c = rw (← c.self.view_is) (record { step = c.step_told.ensures.step; kinds = c.step_told.ensures.kinds; same = refl })
