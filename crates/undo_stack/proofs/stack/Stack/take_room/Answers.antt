use Rattle.std.proofs.Common.{◌≡◌, ◌<◌, ◌∙◌, List, ap, arith, map, refl}
use Rattle.std.proofs.lemmas.Result.{IfOk-weaker}
use Rattle.std.specs.VecDeque.{deque_capacity}
use Rattle.undo_stack.specs.Held.{Becomes, entry_nestings}
use Rattle.undo_stack.specs.Lending.{innermost, with_innermost_of}
use Rattle.undo_stack.specs.Nestings.{nesting}
use Rattle.undo_stack.specs.Sound.{sequence_depth}
use Rattle.undo_stack.specs.Stacks.{Holds, history}
use Rattle.undo_stack.specs.declared.level.Level.{Level}
use Rattle.undo_stack.specs.declared.stack.Stack.{Stack}
use Rattle.undo_stack.proofs.Held.{alike_held, alike_seen}
use Rattle.undo_stack.proofs.Innermost.{as_history, as_holds, inner_held, innermost_led, led, same_led}
use Rattle.undo_stack.proofs.Lent.{levels_as, same_nestings}
use Rattle.undo_stack.proofs.stack.Stack.take_room.Goals as goal

-- the stack with room for a further level
abbrev reserved : (g : _) → goal.After-self-1 g → Stack g.row.C.Denot
reserved g c = record c.args.self.now { sequences = record c.args.self.now.sequences { levels = c.reserve.new.self } }

holds : (g : _) (c : goal.After-self-1 g) → Holds g.C.Command.change (reserved g c)
holds g c = as_holds g.C.Command.change c.args.self.now (reserved g c) refl refl c.reserve.ensures.items c.requires

-- its innermost sequence is the same but for room
same : (g : _) (c : goal.After-self-1 g) → let q = innermost (reserved g c).sequences in Becomes q q.entries.items q.index q.clean c.take_room.new.self
same g c = rw c.innermost.ensures.value at c.take_room.ensures.same

-- and so is the stack
alike : (g : _) (c : goal.After-self-1 g)
    → let t = led (reserved g c) c.args.self.now.document c.take_room.new.self in
    Holds g.C.Command.change t × (history g.C.Command.change t ≡ history g.C.Command.change (reserved g c))
alike g c =
    let f = g.C.Command.change in
    let d = c.args.self.now.document in
    let q = c.take_room.new.self in
    let p = innermost (reserved g c).sequences in
    let k = same g c in
    let flat : sequence_depth q.entries.items ≡ sequence_depth p.entries.items = ap sequence_depth k.entries in
    same_led (holds g c) d q (alike_held f p q k d (inner_held (holds g c))) (omega arith) (alike_seen f p q k d)

pub take_room-requires : goal.take_room-requires
take_room-requires g c =
    let s = c.args.self.now in
    let r : Stack g.row.C.Denot = record s { sequences = record s.sequences { levels = c.reserve.new.self } } in
    let h = as_holds g.C.Command.change s r refl refl c.reserve.ensures.items c.requires in
    rw c.innermost.ensures.value (inner_held h).sound.turnable.within

pub returns-clause-sound : goal.returns-clause-sound
returns-clause-sound g c = (alike g c).0

pub returns-clause-same : goal.returns-clause-same
returns-clause-same g c =
    (alike g c).1 ∙ as_history g.C.Command.change c.args.self.now (reserved g c) refl refl c.reserve.ensures.items

pub returns-clause-inner_room : goal.returns-clause-inner_room
returns-clause-inner_room g c =
    let q = c.take_room.new.self in
    let p = innermost (reserved g c).sequences in
    let z = with_innermost_of (reserved g c).sequences q in
    let room = rw c.innermost.ensures.value at c.take_room.ensures.room in
    IfOk-weaker c.take_room.result (λ _. p.index < deque_capacity q.entries) (λ _. (innermost z).index < deque_capacity (innermost z).entries)
    (λ _ free. rw (innermost_led (holds g c) q, (same g c).index) free) room

pub returns-clause-kept : goal.returns-clause-kept
returns-clause-kept g c =
    let s = c.args.self.now in
    same_nestings (holds g c) s.document c.take_room.new.self (ap (map nesting) (same g c).entries)
    ∙ ap (λ (ls : List (Level g.row.C.Denot)). levels_as (entry_nestings s.sequences.steps) ls) c.reserve.ensures.items
