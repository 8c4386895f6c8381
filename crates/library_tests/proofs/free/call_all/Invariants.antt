-- The stack stays whole, and the words come to an end.
use Rattle.undo_stack.specs.Stacks.{Holds}
use Rattle.library_tests.proofs.free.call_all.Given as goal

abbrev pub invariant-loop-word : goal.invariant-loop-word
invariant-loop-word g l = record {
  can_next : (goal.iterator-loop-word g).can_next l.word-iterator;
  is_finite : (goal.iterator-loop-word g).is_finite l.word-iterator;
  sound : Holds g.C.Command.change l.stack;
}
