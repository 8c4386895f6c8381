use Rattle.std.proofs.Common.{◌≡◌, ℕ, ◌+◌, subst, arith}
use Rattle.undo_stack.specs.History.{document_at}
use Rattle.undo_stack.specs.Stacks.{history}
use Rattle.document_lines.specs.Planning.{edit_change}
use Rattle.memory_editor.specs.Unions.{TellsOn}
use Rattle.memory_editor.proofs.OneMore.{all-within}
use Rattle.memory_editor.proofs.Unions.{tells-then}
use Rattle.memory_editor.proofs.seen.steps_seen.Goals as goal

pub loop-at-init : goal.loop-at-init
loop-at-init c = λ held d within. within

pub loop-at-preserved : goal.loop-at-preserved
loop-at-preserved c = λ held.
    let h = history edit_change c.args.stack.now in
    let l = c.loop-at in
    tells-then c.args.seen.differences l.seen.differences c.step_seen-seen.result.differences (document_at h c.args.from) (document_at h l.at)
    (document_at h (l.at + 1)) (l.invariant held) (c.step_seen-seen.ensures held)

pub returns-then-seen-eq0 : goal.returns-then-seen-eq0
returns-then-seen-eq0 c = λ held le d within. rw c.all.ensures (all-within d (document_at (history edit_change c.args.stack.now) c.args.to))

pub returns : goal.returns
returns c = λ held le.
    let h = history edit_change c.args.stack.now in
    let l = c.loop-at in
    let end : l.at ≡ c.args.to = omega (arith, l.auto.at-end le, c.loop-at-test.false) in
    subst (λ (n : ℕ). TellsOn c.args.seen.differences l.seen.differences (document_at h c.args.from) (document_at h n)) end (l.invariant held)
