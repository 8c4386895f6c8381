use Rattle.std.proofs.Common.{◌-◌, arith, refl, set}
use Rattle.undo_stack.specs.Entries.{entry_change}
use Rattle.undo_stack.specs.Sequence.{IsMoved}
use Rattle.undo_stack.proofs.Held.{turned_held}
use Rattle.undo_stack.proofs.Turns.{fits_below, moved_below}
use Rattle.undo_stack.proofs.Views.{moved_view}
use Rattle.undo_stack.proofs.sequence.Sequence.turn_back.Goals as goal

pub undo-requires : goal.undo-requires
undo-requires g c =
    let q = c.args.self.now in
    let t = c.requires.held.sound.turnable in
    let v = c.index_mut.result.now in
    fits_below (entry_change g.C.Command.change) q.entries.items v q.index c.args.document.now (omega arith) t.within c.index_mut.ensures.value t.down

moved : (g : _) (c : goal.After-self-2-1 g) → let q = c.args.self.now in
    IsMoved (entry_change g.C.Command.change) q.entries.items q.index c.args.document.now
    (set q.entries.items (q.index - 1) c.undo.new.self) (q.index - 1) c.undo.new.document
moved g c =
    let k = entry_change g.C.Command.change in
    let q = c.args.self.now in
    let v = c.index_mut.result.now in
    let t = c.requires.held.sound.turnable in
    moved_below k q.entries.items v c.undo.new.self q.index c.args.document.now c.undo.new.document (omega arith) t.within
    c.index_mut.ensures.value t.down t.up c.undo.ensures.turned

pub returns-clause-held : goal.returns-clause-held
returns-clause-held g c =
    let q = c.args.self.now in
    let t = c.requires.held.sound.turnable in
    let u = c.undo.ensures in
    turned_held g.C.Command.change q _ c.index_mut.result.now c.undo.new.self (q.index - 1) (q.index - 1) (omega (arith, t.within))
    c.index_mut.ensures.value (record { entries = refl; index = refl; clean = refl; limit = refl; has_free = refl }) (omega (arith, t.within))
    c.args.document.now c.undo.new.document (moved g c) u.depth u.turned.names u.turned.obsolete c.requires.held

pub returns-clause-history : goal.returns-clause-history
returns-clause-history g c =
    let q = c.args.self.now in
    let ts = set q.entries.items (q.index - 1) c.undo.new.self in
    moved_view g.C.Command.change c.args.document.now c.undo.new.document q ts (q.index - 1) (moved g c)
