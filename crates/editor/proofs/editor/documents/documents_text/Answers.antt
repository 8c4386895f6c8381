use Rattle.std.proofs.Common.{rules, refl}
use Rattle.undo_group.specs.Stacks.{group_of}
use Rattle.editor.proofs.Listing.{all-IsListed, more-IsListed, none-IsListed}
use Rattle.editor.proofs.editor.documents.documents_text.Goals as goal

pub loop-name-init : goal.loop-name-init
loop-name-init g c = none-IsListed _ _ _ _ _ c.new-text.ensures.bytes refl (search rules)

pub loop-name-preserved : goal.loop-name-preserved
loop-name-preserved g c = more-IsListed _ _ _ _ _ _ _ c.in-Some.name.now c.loop-name.invariant (search rules)
    (rw c.is_active.ensures at c.in_ok-push_listed.ensures)

pub returns : goal.returns
returns g c = all-IsListed (group_of g.C.Command.change c.args.group.now) _ _ _ _ _ c.loop-name.invariant c.in-None.ensures.steps.0 c.active_name-active.ensures
    refl
