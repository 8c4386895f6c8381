use Rattle.std.proofs.Common.{◌≤◌, ◌+◌, length, subst, arith}
use Rattle.std.specs.Prelude.{slice_get}
use Rattle.undo_stack.specs.Stacks.{history}
use Rattle.document_lines.specs.Planning.{edit_change}
use Rattle.memory_editor.specs.Unions.{TellsOn, open_document}
use Rattle.memory_editor.proofs.Unions.{has-none, past-open, tells-then}
use Rattle.memory_editor.proofs.seen.open_seen.Goals as goal

pub loop-inner-init : goal.loop-inner-init
loop-inner-init c = λ held has. (has, λ d within. within)

pub loop-inner-preserved : goal.loop-inner-preserved
loop-inner-preserved c = λ held has.
    let h = history edit_change c.args.stack.now in
    let l = c.loop-inner in
    let so_far = l.invariant held has in (
      has-none (slice_get h.levels (l.inner + 1)),
      tells-then c.args.seen.differences l.seen.differences c.level_seen-seen.result.differences (open_document h c.args.level c.args.from)
          (open_document h l.inner l.first) (open_document h (l.inner + 1) 0) so_far.1 (c.level_seen-seen.ensures held so_far.0),
    )

pub returns : goal.returns
returns c = λ held has.
    let s = c.args.stack.now in
    let h = history edit_change s in
    let l = c.loop-inner in
    let end : length h.levels ≤ l.inner = omega (arith, c.depth-inner-end.ensures, c.loop-inner-test.false) in
    subst (TellsOn c.args.seen.differences l.seen.differences (open_document h c.args.level c.args.from)) (past-open edit_change s l.inner l.first end)
    (l.invariant held has).1
