use Rattle.std.proofs.Common.{◌≡◌, arith, length, refl}
use Rattle.undo_stack.proofs.Innermost.{marked_holds}
use Rattle.undo_stack.proofs.Views.{count-least}
use Rattle.undo_stack.proofs.stack.Stack.set_undo_limit.Goals as goal

pub returns-clause-sound : goal.returns-clause-sound
returns-clause-sound g c =
    let f = g.C.Command.change in
    let s = c.args.self.now in
    let h = c.requires.sound in
    let none : length s.sequences.steps.entries.items ≡ 0 = omega (arith, count-least f s, c.count.ensures) in
    let within = h.own.sound.turnable.clean_within in
    marked_holds f s (record s.sequences.steps { limit = c.args.limit }) refl refl refl within c.requires.limit (λ some. omega arith) h
