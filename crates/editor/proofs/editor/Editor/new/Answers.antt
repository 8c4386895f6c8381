use Rattle.std.proofs.Common.{ap, map}
use Rattle.undo_stack.specs.Turning.{IsSteady}
use Rattle.undo_group.specs.Groups.{empty_group}
use Rattle.editor.proofs.KindLists.{kinds_of}
use Rattle.editor.proofs.Lent.{group-IsSound}
use Rattle.editor.proofs.Histories.{none-have}
use Rattle.editor.proofs.editor.Editor.new.Goals as goal

pub returns-clause-sound : goal.returns-clause-sound
returns-clause-sound g c = group-IsSound g.C.Command.change _ empty_group
    (record { limit = c.requires; group = c.new.ensures.sound }) c.new.ensures.group (none-have IsSteady)

pub returns-clause-kinds : goal.returns-clause-kinds
returns-clause-kinds g c = ap (map kinds_of) c.new.ensures.stacks
