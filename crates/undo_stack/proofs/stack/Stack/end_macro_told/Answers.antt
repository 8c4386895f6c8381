use Rattle.undo_stack.specs.Pushing.{without_last}
use Rattle.undo_stack.specs.Stacks.{history}
use Rattle.undo_stack.proofs.Innermost.{Closes, closing_depth, ended_led, full_led, inner_held, popped_full, popped_holds, popped_ready}
use Rattle.undo_stack.proofs.Lent.{ended_nestings}
use Rattle.undo_stack.proofs.Told.{added_as-TellsDrop, IsAdded-added_as}
use Rattle.undo_stack.proofs.stack.Stack.end_macro_told.Goals as goal

-- the level that was taken becomes the entry
closes : (g : _) (c : goal.After-innermost g) → Closes g.C.Command.change c.args.self.now c.in-Some.level c.pop.new.self c.into_entry-entry.result
closes g c = record { holds = c.requires; items = c.in-Some.ensures.items; closed = c.into_entry-entry.ensures }

pub add-is_dropped-requires-clause-at_end : goal.add-is_dropped-requires-clause-at_end
add-is_dropped-requires-clause-at_end g c = rw c.innermost.ensures.value (popped_ready (closes g c)).index

pub add-is_dropped-requires-clause-room : goal.add-is_dropped-requires-clause-room
add-is_dropped-requires-clause-room g c = rw c.innermost.ensures.value (popped_ready (closes g c)).room

pub add-is_dropped-requires-clause-count : goal.add-is_dropped-requires-clause-count
add-is_dropped-requires-clause-count g c = rw c.innermost.ensures.value (inner_held (popped_holds (closes g c))).sound.count

pub add-is_dropped-requires-clause-depth : goal.add-is_dropped-requires-clause-depth
add-is_dropped-requires-clause-depth g c = closing_depth (closes g c)

closes_last : (g : _) (c : goal.After-added g) → Closes g.C.Command.change c.args.self.now c.in-Some.level c.pop.new.self c.into_entry-entry.result
closes_last g c = record { holds = c.requires; items = c.in-Some.ensures.items; closed = c.into_entry-entry.ensures }

pub returns-clause-sound : goal.returns-clause-sound
returns-clause-sound g c =
    let d = c.args.self.now.document in
    let e = rw c.innermost.ensures.value at c.add-is_dropped.ensures in
    (ended_led (closes_last g c) c.add-is_dropped.new.self e.depth (e.held d) (e.added d)).0

pub returns-clause-step : goal.returns-clause-step
returns-clause-step g c =
    let d = c.args.self.now.document in
    let e = rw c.innermost.ensures.value at c.add-is_dropped.ensures in
    (ended_led (closes_last g c) c.add-is_dropped.new.self e.depth (e.held d) (e.added d)).1

pub returns-clause-nests : goal.returns-clause-nests
returns-clause-nests g c =
    let e = rw c.innermost.ensures.value at c.add-is_dropped.ensures in
    ended_nestings (closes_last g c) c.add-is_dropped.new.self e.nests

pub returns-clause-added : goal.returns-clause-added
returns-clause-added g c = rw c.added.ensures (IsAdded-added_as c.add-is_dropped.result)

pub returns-clause-dropped : goal.returns-clause-dropped
returns-clause-dropped g c =
    let f = g.C.Command.change in
    let s = c.args.self.now in
    let h = history f s in
    let e = rw c.innermost.ensures.value at c.add-is_dropped.ensures in
    let closed = closes_last g c in
    let own = full_led (popped_holds closed) in
    let whole = popped_full closed in
    rw c.added.ensures (added_as-TellsDrop c.add-is_dropped.result (without_last h.levels) h
    ((λ is. whole.0 (own.0 (e.dropped.0 is))), (λ full. e.dropped.1 (own.1 (whole.1 full)))))
