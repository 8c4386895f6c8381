use Rattle.std.proofs.Common.{◌≡◌, map}
use Rattle.undo_stack.specs.Sequence.{Between, after}
use Rattle.undo_stack.specs.Entries.{entry_change, depth}
use Rattle.undo_stack.specs.Nestings.{nesting}
use Rattle.undo_stack.proofs.entry.+redo.Given as goal

abbrev pub invariant-redo_all-loop-i : goal.invariant-redo_all-loop-i
invariant-redo_all-loop-i g l =
    let f = entry_change g.C.Command.change in
    let last = after f l.initial.entries l.initial.document in
    goal.unvisited-redo_all-loop-i g l ×
    Between f l.entries l.i l.document l.initial.document last ×
    (map depth l.entries ≡ map depth l.initial.entries) ×
    (map nesting l.entries ≡ map nesting l.initial.entries)
