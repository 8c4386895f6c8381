-- What a push that is reported makes of the lists of all open documents.
use Rattle.std.proofs.Common.{◌≡◌, Some, ap, ◌∙◌}
use Rattle.command_api.specs.Law.{Change}
use Rattle.undo_stack.specs.History.{current}
use Rattle.undo_stack.specs.Nestings.{macros_of}
use Rattle.undo_stack.specs.Pushing.{step_of}
use Rattle.undo_stack.specs.Reporting.{reports}
use Rattle.undo_stack.specs.Stacks.{history, macros, nestings, IsReported}
use Rattle.undo_stack.specs.declared.stack.Stack.{Stack}
use Rattle.undo_group.specs.Groups.{IsGroup}
use Rattle.undo_group.specs.Lending.{IsLeft}
use Rattle.undo_group.specs.Stacks.{group_of, stack_at}
use Rattle.document_lines.specs.Answers.{state_reply}
use Rattle.document_lines.specs.Kinds.{PushesKind}
use Rattle.document_lines.specs.Machine.{active_of}
use Rattle.document_lines.proofs.Macros.{edited, levels-alike}
use Rattle.editor.specs.declared.editor.Editor.{Editor}
use Rattle.editor.specs.Editors.{machine_of, stacks_in}
use Rattle.editor.specs.Kinds.{CommitKinds, kinds_in}
use Rattle.editor.proofs.KindLists.{active_kinds}

-- over one document
push-macros : {C : Type 0} (f : C → Change) (x : C) (s t : Stack C) → IsReported f x s t
    → PushesKind (history f s) (step_of (f x) (current (history f s))) (history f t) (macros s) (macros t)
push-macros f x s t r =
    let h = history f s in
    record {
      pushed = record { merged = r.merged; gone = reports f r.entry; merged_where = r.merged_where; gone_where = r.gone_where; next = r.next };
      edited =
          ap macros_of r.nests
          ∙ edited h.levels (nestings s).levels r.merged (reports f r.entry) h.limit h.position (nestings s).steps (levels-alike f s);
    }

-- over an editor of which the active stack s was lent and left as t
pub commit_kinds : {C : Type 0} (f : C → Change) (old new : Editor C) (s t : Stack C) (x : C) → new.limit ≡ old.limit → IsLeft f old.group t new.group
    → IsGroup (group_of f old.group) → Some (history f s) ≡ active_of (machine_of f old) → Some s ≡ stack_at (machine_of f old).group.active (stacks_in old)
    → IsReported f x s t → CommitKinds (f x) (machine_of f old) (state_reply (history f t)) (machine_of f new) (kinds_in old) (kinds_in new)
commit_kinds f old new s t x same left whole active was reported =
    active_kinds f old new s t same left whole active was (λ h k ks ns. PushesKind h (step_of (f x) (current h)) k ks ns) (push-macros f x s t reported)
