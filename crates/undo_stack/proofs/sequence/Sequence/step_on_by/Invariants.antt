use Rattle.std.proofs.Common.{◌≤◌, ◌+◌, ◌-◌, drop, length, take}
use Rattle.undo_stack.specs.Held.{history_at, IsHeld, shape_at}
use Rattle.undo_stack.specs.Nestings.{Shape}
use Rattle.undo_stack.specs.Reporting.{AreRedone}
use Rattle.undo_stack.specs.Turning.{TurnsOn, TurnBy}
use Rattle.undo_stack.proofs.sequence.Sequence.step_on_by.Given as goal

abbrev pub invariant-loop-left : goal.invariant-loop-left
invariant-loop-left g l =
    let f = g.C.Command.change in
    let q = l.fn.self in
    let p = l.self in
    record {
      held : IsHeld f l.document p;
      fewer : l.left ≤ l.fn.steps;
      above : p.index + l.left ≤ length (history_at f l.document p).steps;
      reported : (n : Shape) → AreRedone f (take l.left (drop p.index p.entries.items)) l.document (shape_at f l.document p) n
          → AreRedone f (take l.fn.steps (drop q.index q.entries.items)) l.fn.document (shape_at f l.fn.document q) n;
      turned : TurnBy TurnsOn (l.fn.steps - l.left) (history_at f l.fn.document q) (history_at f l.document p);
    }

abbrev pub decreases-loop-left : goal.decreases-loop-left
decreases-loop-left g l = l.left
