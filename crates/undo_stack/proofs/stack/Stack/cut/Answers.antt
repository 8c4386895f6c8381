use Rattle.std.proofs.Common.{◌∙◌, ap, length, sym}
use Rattle.std.proofs.lemmas.List.{length-take-le}
use Rattle.undo_stack.specs.Pushing.{cut}
use Rattle.undo_stack.proofs.Held.{cut_held, cut_seen}
use Rattle.undo_stack.proofs.Innermost.{closed_held, closed_history, closed_holds, open_ready, open_uncut}
use Rattle.undo_stack.specs.Held.{entry_nestings}
use Rattle.undo_stack.proofs.Lent.{cut_nestings, open_nestings}
use Rattle.undo_stack.proofs.stack.Stack.cut.Goals as goal

pub returns-then-is_open-clause-cut : goal.returns-then-is_open-clause-cut
returns-then-is_open-clause-cut g c =
    let s = c.args.self.now in
    open_uncut s.sequences.levels.items g.C.Command.change s.document s.sequences.steps c.if-is_open.ensures

pub returns-then-is_open-clause-ready : goal.returns-then-is_open-clause-ready
returns-then-is_open-clause-ready g c = open_ready c.requires.sound c.if-is_open.ensures c.requires.room

pub returns-clause-sound : goal.returns-clause-sound
returns-clause-sound g c =
    let f = g.C.Command.change in
    let s = c.args.self.now in
    let none = c.if-is_open.ensures in
    closed_holds f _ none (cut_held f s.sequences.steps c.cut.new.self c.cut.ensures.cut s.document (closed_held f s none c.requires.sound))

pub returns-clause-cut : goal.returns-clause-cut
returns-clause-cut g c =
    let f = g.C.Command.change in
    let s = c.args.self.now in
    let none = c.if-is_open.ensures in
    closed_history f (record s { sequences = record s.sequences { steps = c.cut.new.self } }) none
    ∙ cut_seen f s.sequences.steps c.cut.new.self c.cut.ensures.cut s.document c.requires.sound.own.sound.turnable.within
    ∙ sym (ap cut (closed_history f s none))

pub returns-clause-ready : goal.returns-clause-ready
returns-clause-ready g c =
    let s = c.args.self.now in
    let k = c.cut.ensures.cut in
    let long = length-take-le s.sequences.steps.index s.sequences.steps.entries.items c.requires.sound.own.sound.turnable.within in
    rw c.if-is_open.ensures record {
      index = k.index ∙ sym (ap length k.entries ∙ long);
      room = rw (k.index, c.cut.ensures.room) (rw c.if-is_open.ensures at c.requires.room);
    }

pub returns-then-is_open-clause-nests : goal.returns-then-is_open-clause-nests
returns-then-is_open-clause-nests g c =
    let s = c.args.self.now in
    open_nestings s.sequences.levels.items (entry_nestings s.sequences.steps) s.sequences.steps.index c.if-is_open.ensures

pub returns-clause-nests : goal.returns-clause-nests
returns-clause-nests g c = cut_nestings c.args.self.now c.cut.new.self c.if-is_open.ensures c.cut.ensures.cut.entries
