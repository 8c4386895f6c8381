use Rattle.std.proofs.Common.{subst}
use Rattle.undo_stack.specs.History.{document_at}
use Rattle.undo_stack.specs.Stacks.{history}
use Rattle.document_lines.specs.Planning.{edit_change}
use Rattle.document_lines.specs.declared.differences.Differences.{Differences}
use Rattle.memory_editor.specs.Unions.{TellsOn}
use Rattle.memory_editor.proofs.Unions.{turn-told}
use Rattle.memory_editor.proofs.listening.Done.of_turn.Goals as goal

pub returns : goal.returns
returns c = λ turned held.
    let h = history edit_change c.args.stack.now in
    let low = c.min-low.result in
    let high = c.max-high.result in
    let told = c.steps_seen-seen.result.differences in
    rw c.of_entries.ensures.differs (turn-told (document_at h) c.args.before.index c.args.now.index low high told c.min-low.ensures c.max-high.ensures
    (λ le. subst (λ (was : Differences). TellsOn was told (document_at h low) (document_at h high)) c.nothing-2.ensures (c.steps_seen-seen.ensures held le)))
