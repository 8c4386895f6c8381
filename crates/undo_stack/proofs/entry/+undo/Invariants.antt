use Rattle.std.proofs.Common.{◌≡◌, map}
use Rattle.undo_stack.specs.Sequence.{Between, before}
use Rattle.undo_stack.specs.Entries.{entry_change, depth}
use Rattle.undo_stack.specs.Nestings.{nesting}
use Rattle.undo_stack.proofs.entry.+undo.Given as goal

abbrev pub invariant-undo_all-loop-i : goal.invariant-undo_all-loop-i
invariant-undo_all-loop-i g l =
    let f = entry_change g.C.Command.change in
    let first = before f l.initial.entries l.initial.document in
    goal.unvisited-undo_all-loop-i g l ×
    Between f l.entries l.i l.document first l.initial.document ×
    (map depth l.entries ≡ map depth l.initial.entries) ×
    (map nesting l.entries ≡ map nesting l.initial.entries)
