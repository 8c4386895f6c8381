use Rattle.std.proofs.Common.{◌≡◌, ℕ, ◌-◌, arith, length, min, subst}
use Rattle.undo_stack.specs.Entries.{entry_change}
use Rattle.undo_stack.specs.Held.{history_at, shape_at}
use Rattle.undo_stack.specs.Turning.{TurnsOn, TurnBy}
use Rattle.undo_stack.proofs.Reported.{turned_down, turned_up}
use Rattle.undo_stack.proofs.Sequences.{length-steps}
use Rattle.undo_stack.proofs.Turnings.{turned_only_back, turned_only_on}
use Rattle.undo_stack.proofs.sequence.Sequence.step_to.Goals as goal

pub step_on_by-requires-clause-above : goal.step_on_by-requires-clause-above
step_on_by-requires-clause-above g c =
    let q = c.args.self.now in
    let all = length-steps (entry_change g.C.Command.change) q.entries.items q.index c.args.document.now in
    omega (arith, all, c.min.ensures, c.len.ensures, q.entries.ok.0, c.requires.sound.turnable.within)

pub returns-then-index-self-clause-reported : goal.returns-then-index-self-clause-reported
returns-then-index-self-clause-reported g c =
    let f = g.C.Command.change in
    let n = shape_at f c.step_back_by.new.document c.step_back_by.new.self in
    turned_down f c.args.document.now c.args.self.now c.args.index n (omega (arith, c.if-index-self.true)) c.step_back_by.ensures.reported

pub returns-then-index-self-clause-turned : goal.returns-then-index-self-clause-turned
returns-then-index-self-clause-turned g c =
    let h = history_at g.C.Command.change c.args.document.now c.args.self.now in
    turned_only_back c.args.index h _ (omega (arith, c.if-index-self.true)) c.step_back_by.ensures.turned

pub returns-else-index-self-clause-reported : goal.returns-else-index-self-clause-reported
returns-else-index-self-clause-reported g c =
    let f = g.C.Command.change in
    let q = c.args.self.now in
    let n = shape_at f c.step_on_by.new.document c.step_on_by.new.self in
    let steps : c.min.result - q.index ≡ min c.args.index (length q.entries.items) - q.index =
    omega (arith, c.min.ensures, c.len.ensures, q.entries.ok.0) in
    turned_up f c.args.document.now q c.args.index _ n c.if-index-self.false steps c.step_on_by.ensures.reported

pub returns-else-index-self-clause-turned : goal.returns-else-index-self-clause-turned
returns-else-index-self-clause-turned g c =
    let f = g.C.Command.change in
    let q = c.args.self.now in
    let h = history_at f c.args.document.now q in
    let n = history_at f c.step_on_by.new.document c.step_on_by.new.self in
    let all = length-steps (entry_change f) q.entries.items q.index c.args.document.now in
    let steps : c.min.result - q.index ≡ min c.args.index (length h.steps) - q.index =
    omega (arith, all, c.min.ensures, c.len.ensures, q.entries.ok.0) in
    turned_only_on c.args.index h n c.if-index-self.false (subst (λ (k : ℕ). TurnBy TurnsOn k h n) steps c.step_on_by.ensures.turned)
