-- An editor, seen as a machine, where change says what its commands do.
use Rattle.std.specs.Prelude.{◌≤◌, List, All}
use Rattle.command_api.specs.Law.{Change}
use Rattle.undo_stack.specs.Turning.{IsSteady}
use Rattle.undo_stack.specs.declared.limits.TheConstants.{MAX_LIMIT}
use Rattle.undo_group.specs.Groups.{OpenDocument}
use Rattle.undo_group.specs.Stacks.{NamedStack, group_of, stacks_of, AreHeld}
use Rattle.document_lines.specs.Machine.{Machine}
use Rattle.editor.specs.declared.editor.Editor.{Editor}

-- the machine that an editor stands for
abbrev pub machine_of : {C : Type 0} → (C → Change) → Editor C → Machine
machine_of change editor = record { limit = editor.limit; group = group_of change editor.group }

-- the stacks of an editor, in order of opening
abbrev pub stacks_in : {C : Type 0} → Editor C → List (NamedStack C)
stacks_in editor = stacks_of editor.group

-- no step of these documents is that of a free command
abbrev pub AreSteady : List OpenDocument → Type 0
AreSteady documents = All (λ d. IsSteady d.history) documents

-- what is open can be turned, and a new document may have the limit
pub record IsHeld {C : Type 0} (change : C → Change) (editor : Editor C) : Type 0 where
  pub limit : editor.limit ≤ MAX_LIMIT
  pub group : AreHeld change editor.group

-- and no step goes by a turn
pub record IsSound {C : Type 0} (change : C → Change) (editor : Editor C) : Type 0 where
  pub held : IsHeld change editor
  pub steady : AreSteady (group_of change editor.group).documents
