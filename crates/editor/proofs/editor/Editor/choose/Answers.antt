use Rattle.std.proofs.Common.{ap, map}
use Rattle.editor.proofs.KindLists.{kinds_of}
use Rattle.editor.proofs.Lent.{group-IsSound}
use Rattle.editor.proofs.editor.Editor.choose.Goals as goal

pub status-requires : goal.status-requires
status-requires g c = record { limit = c.requires.limit; group = c.set_active.ensures.sound }

pub returns-in-Ok-clause-sound : goal.returns-in-Ok-clause-sound
returns-in-Ok-clause-sound g c = λ sound.
    group-IsSound g.C.Command.change _ _ (record { limit = c.requires.limit; group = c.set_active.ensures.sound }) c.in-Ok.ensures.chosen sound.steady

pub returns-in-Err-clause-sound : goal.returns-in-Err-clause-sound
returns-in-Err-clause-sound g c = λ sound.
    group-IsSound g.C.Command.change _ _ (record { limit = c.requires.limit; group = c.set_active.ensures.sound }) c.in-Err.ensures.unchanged sound.steady

pub returns-in-Ok-clause-kinds : goal.returns-in-Ok-clause-kinds
returns-in-Ok-clause-kinds g c = ap (map kinds_of) c.set_active.ensures.stacks

pub returns-in-Err-clause-kinds : goal.returns-in-Err-clause-kinds
returns-in-Err-clause-kinds g c = ap (map kinds_of) c.set_active.ensures.stacks
