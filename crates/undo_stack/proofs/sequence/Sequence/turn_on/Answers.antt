use Rattle.std.proofs.Common.{◌+◌, arith, refl, set}
use Rattle.undo_stack.specs.Entries.{entry_change}
use Rattle.undo_stack.specs.Sequence.{IsMoved}
use Rattle.undo_stack.proofs.Held.{turned_held}
use Rattle.undo_stack.proofs.Turns.{fits_next, moved_on}
use Rattle.undo_stack.proofs.Views.{moved_view}
use Rattle.undo_stack.proofs.sequence.Sequence.turn_on.Goals as goal

pub redo-requires : goal.redo-requires
redo-requires g c =
    let q = c.args.self.now in
    let t = c.requires.held.sound.turnable in
    let v = c.index_mut.result.now in
    fits_next (entry_change g.C.Command.change) q.entries.items v q.index c.args.document.now t.up c.requires.above c.index_mut.ensures.value

moved : (g : _) (c : goal.After-self-2-1 g) → let q = c.args.self.now in
    IsMoved (entry_change g.C.Command.change) q.entries.items q.index c.args.document.now
    (set q.entries.items q.index c.redo.new.self) (q.index + 1) c.redo.new.document
moved g c =
    let k = entry_change g.C.Command.change in
    let q = c.args.self.now in
    let v = c.index_mut.result.now in
    let t = c.requires.held.sound.turnable in
    moved_on k q.entries.items v c.redo.new.self q.index c.args.document.now c.redo.new.document t.down t.up c.requires.above
    c.index_mut.ensures.value c.redo.ensures.turned

pub returns-clause-held : goal.returns-clause-held
returns-clause-held g c =
    let q = c.args.self.now in
    let r = c.requires in
    let u = c.redo.ensures in
    turned_held g.C.Command.change q _ c.index_mut.result.now c.redo.new.self q.index (q.index + 1) r.above
    c.index_mut.ensures.value (record { entries = refl; index = refl; clean = refl; limit = refl; has_free = refl }) (omega arith)
    c.args.document.now c.redo.new.document (moved g c) u.depth u.turned.names u.turned.obsolete r.held

pub returns-clause-history : goal.returns-clause-history
returns-clause-history g c =
    let q = c.args.self.now in
    let ts = set q.entries.items q.index c.redo.new.self in
    moved_view g.C.Command.change c.args.document.now c.redo.new.document q ts (q.index + 1) (moved g c)
