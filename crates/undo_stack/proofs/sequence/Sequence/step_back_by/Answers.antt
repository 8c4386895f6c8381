use Rattle.std.proofs.Common.{◌≡◌, ℕ, ◌+◌, ◌-◌, ◌<◌, arith, subst}
use Rattle.undo_stack.specs.Held.{history_at, shape_at}
use Rattle.undo_stack.specs.Turning.{TurnsBack, TurnBy}
use Rattle.undo_stack.proofs.Reported.{none_undone, undone_more}
use Rattle.undo_stack.proofs.Turnings.{position-TurnsBack, turned_more}
use Rattle.undo_stack.proofs.sequence.Sequence.step_back_by.Goals as goal

pub loop-left-preserved : goal.loop-left-preserved
loop-left-preserved g c =
    let f = g.C.Command.change in
    let l = c.loop-left in
    let i = l.invariant in
    let one = c.step_back.ensures in
    let e = c.step_back.new.document in
    let p = c.step_back.new.self in
    let done = c.args.steps - l.left in
    let floor = c.args.self.now.index - c.args.steps in
    let h = history_at f c.args.document.now c.args.self.now in
    let m = history_at f l.document l.self in
    let n = history_at f e p in
    let number = position-TurnsBack m n one.turned in
    let more : c.args.steps - l.left + 1 ≡ c.args.steps - (l.left - 1) = omega (arith, i.fewer) in
    let above : floor < l.self.index = omega (arith, i.floor, i.below) in
    record {
      held = one.held;
      floor = omega (arith, i.floor, one.reported.index, i.below);
      reported = λ k rest.
          i.reported k (undone_more f l.document e l.self p floor k above i.held.sound.turnable.within one.reported rest);
      fewer = omega (arith, i.fewer);
      below = omega (arith, number, i.below);
      turned = subst (λ (k : ℕ). TurnBy TurnsBack k h n) more (turned_more TurnsBack done h m n i.turned one.turned);
    }

pub returns-clause-reported : goal.returns-clause-reported
returns-clause-reported g c =
    let f = g.C.Command.change in
    let l = c.loop-left in
    let floor = c.args.self.now.index - c.args.steps in
    let none = none_undone f l.self.entries.items floor l.self.index l.document (shape_at f l.document l.self) (omega (arith, l.invariant.floor)) in
    l.invariant.reported _ none
