use Rattle.std.proofs.Common.{◌∙◌, ℕ, ap, arith, length, min}
use Rattle.undo_stack.specs.Entries.{entry_change}
use Rattle.undo_stack.specs.Held.{entry_nestings, history_at, shape_at}
use Rattle.undo_stack.specs.Moving.{positioned}
use Rattle.undo_stack.proofs.Held.{moved_held}
use Rattle.undo_stack.proofs.Nestings.{shaped}
use Rattle.undo_stack.proofs.Reported.{bound_turned}
use Rattle.undo_stack.proofs.Sequences.{length-steps}
use Rattle.undo_stack.proofs.Views.{turned_view}
use Rattle.undo_stack.proofs.sequence.Sequence.turn_to.Goals as goal

pub returns-clause-history : goal.returns-clause-history
returns-clause-history g c =
    let f = g.C.Command.change in
    let q = c.args.self.now in
    let h = history_at f c.args.document.now q in
    let u = history_at f c.undo_to.new.document c.undo_to.new.self in
    let n = history_at f c.redo_to.new.document c.redo_to.new.self in
    let all = length-steps (entry_change f) q.entries.items q.index c.args.document.now in
    let within = c.requires.held.sound.turnable.within in
    turned_view h u n c.args.index (omega (arith, all, within)) c.undo_to.ensures.history c.redo_to.ensures.history

pub returns-clause-held : goal.returns-clause-held
returns-clause-held g c =
    let q = c.args.self.now in
    let r = c.requires in
    moved_held g.C.Command.change q c.redo_to.new.self c.args.document.now c.redo_to.new.document _ r.bound (returns-clause-history g c) r.held
    c.redo_to.ensures.sound (c.redo_to.ensures.stale ∙ c.undo_to.ensures.stale)

pub returns-clause-reported : goal.returns-clause-reported
returns-clause-reported g c =
    let f = g.C.Command.change in
    let q = c.args.self.now in
    let d = c.args.document.now in
    let h = history_at f d q in
    let e = c.redo_to.new.document in
    let p = c.redo_to.new.self in
    let held = c.requires.held in
    let all = length-steps (entry_change f) q.entries.items q.index d in
    let is = returns-clause-history g c ∙ ap (λ (k : ℕ). positioned (min c.args.index k) h) all in
    let kept = c.redo_to.ensures.nests ∙ c.undo_to.ensures.nests in
    let next = shaped (history_at f e p) (positioned (min c.args.index (length q.entries.items)) h) (entry_nestings p) (entry_nestings q) is kept in
    bound_turned f q.entries.items c.args.index d (shape_at f d q) (shape_at f e p) (held.none_free c.requires.bound) held.sound.turnable.within next
