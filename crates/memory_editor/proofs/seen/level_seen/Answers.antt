use Rattle.std.proofs.Common.{◌∙◌, ◌+◌, ℕ, Option, ap, subst}
use Rattle.std.specs.Prelude.{unwrap_or}
use Rattle.undo_stack.specs.Stacks.{history}
use Rattle.document_lines.specs.Planning.{edit_change}
use Rattle.memory_editor.specs.Unions.{TellsOn, open_document}
use Rattle.memory_editor.proofs.OneMore.{all-within}
use Rattle.memory_editor.proofs.Unions.{all-inner, next-open, tells-then}
use Rattle.memory_editor.proofs.seen.level_seen.Goals as goal

pub loop-at-init : goal.loop-at-init
loop-at-init c = λ held d within. within

pub loop-at-preserved : goal.loop-at-preserved
loop-at-preserved c = λ held.
    let h = history edit_change c.args.stack.now in
    let l = c.loop-at in
    tells-then c.args.seen.differences l.seen.differences c.entry_seen-seen.result.differences (open_document h c.args.level c.args.from)
    (open_document h c.args.level l.at) (open_document h c.args.level (l.at + 1)) (l.invariant held) (c.entry_seen-seen.ensures held)

pub returns-then-seen-eq0 : goal.returns-then-seen-eq0
returns-then-seen-eq0 c = λ held has d within. rw c.all.ensures (all-within d (open_document (history edit_change c.args.stack.now) (c.args.level + 1) 0))

pub returns : goal.returns
returns c = λ held has.
    let s = c.args.stack.now in
    let h = history edit_change s in
    let l = c.loop-at in
    let count = c.unwrap_or-at-end.ensures ∙ ap (λ (n : Option ℕ). unwrap_or n 0) c.open_count.ensures in
    let end = all-inner edit_change s c.args.level c.unwrap_or-at-end.result l.at count c.loop-at-test.false in
    subst (TellsOn c.args.seen.differences l.seen.differences (open_document h c.args.level c.args.from)) (next-open edit_change s held c.args.level l.at end)
    (l.invariant held)
