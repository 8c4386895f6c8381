use Rattle.std.proofs.Common.{◌≡◌, List, [], subst}
use Rattle.std.specs.Option.{option_map}
use Rattle.std.specs.Prelude.{MatchOption}
use Rattle.undo_stack.specs.Stacks.{macros}
use Rattle.undo_group.specs.Groups.{GroupParts}
use Rattle.undo_group.specs.Stacks.{NamedStack, stack_at, stacks_of}
use Rattle.document_lines.specs.declared.planned.Edit.{Edit}
use Rattle.document_lines.specs.Planning.{edit_change}
use Rattle.editor.specs.Editors.{machine_of, stacks_in}
use Rattle.editor.specs.Kinds.{macros_at}
use Rattle.editor.proofs.KindLists.{active-macros}
use Rattle.memory_editor.specs.Parts.{MemoryEditorParts}
use Rattle.memory_editor.proofs.memory_editor.MemoryEditor.active.Goals as goal

pub returns-clause-kinds : goal.returns-clause-kinds
returns-clause-kinds c =
    let editor = c.self.inside.editor in
    let P : GroupParts → Type 0 = λ g. option_map (λ stack. stack.now) c.active.result ≡ stack_at g.active (stacks_of c.group.result.now) in
    let Q : List (NamedStack Edit) → Type 0 =
    λ ss. option_map (λ stack. stack.now) c.active.result ≡ stack_at (machine_of edit_change editor).group.active ss in
    let R : MemoryEditorParts → Type 0 =
    λ s. MatchOption c.active.result (macros_at s.machine.group.active s.kinds ≡ []) (λ stack. macros stack.now ≡ macros_at s.machine.group.active s.kinds) in
    subst R c.self.view_is
    (active-macros (λ stack. stack.now) c.active.result (machine_of edit_change editor).group.active (stacks_in editor)
    (subst Q c.group.ensures.stacks (subst P c.group.ensures.group c.active.ensures.stack)))
