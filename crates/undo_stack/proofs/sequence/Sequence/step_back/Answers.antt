use Rattle.std.proofs.Common.{ℕ, ◌-◌, ◌<◌, arith, length, subst}
use Rattle.undo_stack.specs.Held.{IsHeldButAt}
use Rattle.undo_stack.proofs.Held.{held_bound}
use Rattle.undo_stack.proofs.Reported.{bound_before, down_kept, down_looked}
use Rattle.undo_stack.proofs.sequence.Sequence.step_back.Goals as goal

pub returns-then-self-clause-reported : goal.returns-then-self-clause-reported
returns-then-self-clause-reported g c =
    let d = c.args.document.now in
    let e = c.turn_back.new.document in
    let t = c.turn_back.ensures in
    let within = c.requires.held.sound.turnable.within in
    down_looked g.C.Command.change d e c.args.self.now c.turn_back.new.self c.drop_above.new.self t.undone c.requires.below within t.index t.history
    (c.drop_above.ensures e t.held)

pub returns-else-self-clause-reported : goal.returns-else-self-clause-reported
returns-else-self-clause-reported g c =
    let f = g.C.Command.change in
    let q = c.args.self.now in
    let p = c.turn_back.new.self in
    let t = c.turn_back.ensures in
    let u = t.undone in
    let inside : q.index - 1 < length q.entries.items = omega (arith, c.requires.below, c.requires.held.sound.turnable.within) in
    let bound = bound_before f (q.index - 1) u.before u.after q p u.put inside u.undone.names (t.held.none_free c.if-self.false) in
    down_kept f c.args.document.now c.turn_back.new.document q p u bound t.index t.history

pub returns-else-self-clause-held : goal.returns-else-self-clause-held
returns-else-self-clause-held g c =
    let f = g.C.Command.change in
    let q = c.args.self.now in
    let p = c.turn_back.new.self in
    let e = c.turn_back.new.document in
    let t = c.turn_back.ensures in
    let u = t.undone in
    let inside : q.index - 1 < length q.entries.items = omega (arith, c.requires.below, c.requires.held.sound.turnable.within) in
    let held : IsHeldButAt f e (q.index - 1) p = subst (λ (n : ℕ). IsHeldButAt f e n p) t.index t.held in
    held_bound f e (q.index - 1) u.before u.after q p u.put inside c.if-self.false held
