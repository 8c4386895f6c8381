use Rattle.undo_stack.proofs.Turnings.{Redoes-steady, SetsIndex-steady, Undoes-steady}
use Rattle.editor.proofs.editor.turns_are_moves.Goals as goal

pub returns-clause-undo : goal.returns-clause-undo
returns-clause-undo c = λ h n answer steady turns. Undoes-steady h answer n steady turns

pub returns-clause-redo : goal.returns-clause-redo
returns-clause-redo c = λ h n answer steady turns. Redoes-steady h answer n steady turns

pub returns-clause-goto : goal.returns-clause-goto
returns-clause-goto c = λ i h n answer steady within sets. SetsIndex-steady i h answer n steady within sets
