use Rattle.std.proofs.Common.{◌≡◌, ℕ, ◌+◌, ◌-◌, ◌<◌, arith, drop, refl, subst, take}
use Rattle.undo_stack.specs.Held.{history_at, shape_at}
use Rattle.undo_stack.specs.Reporting.{AreRedone}
use Rattle.undo_stack.specs.Turning.{TurnsOn, TurnBy}
use Rattle.undo_stack.proofs.Reported.{redone_more}
use Rattle.undo_stack.proofs.Turnings.{room-TurnsOn, turned_more}
use Rattle.undo_stack.proofs.Views.{step_within}
use Rattle.undo_stack.proofs.sequence.Sequence.step_on_by.Goals as goal

pub loop-left-preserved : goal.loop-left-preserved
loop-left-preserved g c =
    let f = g.C.Command.change in
    let l = c.loop-left in
    let i = l.invariant in
    let one = c.step_on.ensures in
    let e = c.step_on.new.document in
    let p = c.step_on.new.self in
    let h = history_at f c.args.document.now c.args.self.now in
    let m = history_at f l.document l.self in
    let n = history_at f e p in
    let some : 0 < l.left = omega arith in
    let more : c.args.steps - l.left + 1 ≡ c.args.steps - (l.left - 1) = omega (arith, i.fewer) in
    let inside = step_within f l.document l.self (omega (arith, i.above)) in
    record {
      held = one.held;
      reported = λ k rest. i.reported k (redone_more f l.document e l.self p l.left k some inside one.reported rest);
      fewer = omega (arith, i.fewer);
      above = room-TurnsOn m n l.left some i.above one.turned;
      turned = subst (λ (k : ℕ). TurnBy TurnsOn k h n) more (turned_more TurnsOn (c.args.steps - l.left) h m n i.turned one.turned);
    }

pub returns-clause-reported : goal.returns-clause-reported
returns-clause-reported g c =
    let f = g.C.Command.change in
    let l = c.loop-left in
    let q = l.self in
    let h = shape_at f l.document q in
    let none : 0 ≡ l.left = omega arith in
    l.invariant.reported h (subst (λ (k : ℕ). AreRedone f (take k (drop q.index q.entries.items)) l.document h h) none refl)
