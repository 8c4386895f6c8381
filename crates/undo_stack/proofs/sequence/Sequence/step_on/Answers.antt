use Rattle.std.proofs.Common.{ℕ, ◌-◌, arith, subst}
use Rattle.undo_stack.specs.Held.{IsHeldButAt}
use Rattle.undo_stack.proofs.Held.{held_bound}
use Rattle.undo_stack.proofs.Reported.{bound_before, up_kept, up_looked}
use Rattle.undo_stack.proofs.Views.{step_within}
use Rattle.undo_stack.proofs.sequence.Sequence.step_on.Goals as goal

pub turn_on-requires-clause-above : goal.turn_on-requires-clause-above
turn_on-requires-clause-above g c = step_within g.C.Command.change c.args.document.now c.args.self.now c.requires.above

pub returns-then-self-clause-reported : goal.returns-then-self-clause-reported
returns-then-self-clause-reported g c =
    let f = g.C.Command.change in
    let q = c.args.self.now in
    let p = c.turn_on.new.self in
    let d = c.args.document.now in
    let e = c.turn_on.new.document in
    let t = c.turn_on.ensures in
    let held : IsHeldButAt f e (p.index - 1) p = subst (λ (n : ℕ). IsHeldButAt f e n p) (omega (arith, t.index)) t.held in
    up_looked f d e q p c.drop_below.new.self t.redone (step_within f d q c.requires.above) t.index t.history (c.drop_below.ensures e held)

pub returns-else-self-clause-reported : goal.returns-else-self-clause-reported
returns-else-self-clause-reported g c =
    let f = g.C.Command.change in
    let q = c.args.self.now in
    let p = c.turn_on.new.self in
    let d = c.args.document.now in
    let t = c.turn_on.ensures in
    let u = t.redone in
    let bound = bound_before f q.index u.before u.after q p u.put (step_within f d q c.requires.above) u.redone.names (t.held.none_free c.if-self.false) in
    up_kept f d c.turn_on.new.document q p u bound t.index t.history

pub returns-else-self-clause-held : goal.returns-else-self-clause-held
returns-else-self-clause-held g c =
    let f = g.C.Command.change in
    let q = c.args.self.now in
    let p = c.turn_on.new.self in
    let t = c.turn_on.ensures in
    let u = t.redone in
    held_bound f c.turn_on.new.document q.index u.before u.after q p u.put (step_within f c.args.document.now q c.requires.above) c.if-self.false t.held
