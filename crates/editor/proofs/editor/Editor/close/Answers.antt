use Rattle.std.proofs.Common.{◌≡◌, Some, ap, sym, subst, ◌∙◌}
use Rattle.std.specs.Option.{option_map}
use Rattle.undo_group.specs.Groups.{history_named, removed}
use Rattle.undo_group.specs.Stacks.{group_of}
use Rattle.undo_stack.specs.Stacks.{history}
use Rattle.document_lines.specs.Acts.{GoesOn, Named}
use Rattle.editor.specs.declared.editor.Editor.{Editor}
use Rattle.editor.proofs.Closing.{absent-Closes, clean-Closes}
use Rattle.editor.specs.Editors.{machine_of}
use Rattle.editor.specs.Kinds.{kinds_in, LosesKinds, UnlessRefused}
use Rattle.document_lines.specs.Planning.{KeepsReply}
use Rattle.editor.proofs.editor.Editor.close.Goals.{in-Some+else-not-is_clean, in_default}
use Rattle.editor.proofs.editor.Editor.close.Goals as goal

pub returns-clause-step : goal.returns-clause-step
returns-clause-step g c =
    let f = g.C.Command.change in
    let name = c.args.name.now in
    let documents = (group_of f c.args.self.now.group).documents in
    let new = machine_of f c.discard.new.self in
    let Goes : Editor g.row.C.Denot → Type 0 = λ e. Named name (λ h. GoesOn (removed name)) (machine_of f e) (Some c.discard.result) new in
    let found : option_map (λ s. history f s.now) c.get.result ≡ history_named name documents =
    subst (λ n. option_map (λ s. history f s.now) c.get.result ≡ history_named n documents) c.as_str.ensures c.get.ensures.named in
    elim c.match-get.branch [
      | in-Some+else-not-is_clean w ↦
          clean-Closes name (history_named name documents) (machine_of f c.args.self.now) new (Some c.discard.result) (history f w.in-Some.stack.now)
          (sym found ∙ ap (option_map (λ s. history f s.now)) w.in-Some.is) w.if-not-is_clean.ensures
          (subst Goes w.self-is c.discard.ensures.step)
      | in_default w ↦
          absent-Closes name (history_named name documents) (machine_of f c.args.self.now) new (Some c.discard.result)
          (sym found ∙ ap (option_map (λ s. history f s.now)) w.in_default.is)
          (subst Goes w.self-is c.discard.ensures.step)
    ]

pub returns-clause-unchanged : goal.returns-clause-unchanged
returns-clause-unchanged g c =
    let f = g.C.Command.change in
    let same : c.match-get.self ≡ c.args.self.now = elim c.match-get.branch [ in-Some+else-not-is_clean w ↦ w.self-is | in_default w ↦ w.self-is ] in
    subst (λ e. KeepsReply c.discard.result (machine_of f e) (machine_of f c.discard.new.self)) same c.discard.ensures.unchanged

pub returns-clause-kinds : goal.returns-clause-kinds
returns-clause-kinds g c =
    let same : c.match-get.self ≡ c.args.self.now = elim c.match-get.branch [ in-Some+else-not-is_clean w ↦ w.self-is | in_default w ↦ w.self-is ] in
    subst (λ e. UnlessRefused c.discard.result (LosesKinds c.args.name.now) (kinds_in e) (kinds_in c.discard.new.self)) same c.discard.ensures.kinds
