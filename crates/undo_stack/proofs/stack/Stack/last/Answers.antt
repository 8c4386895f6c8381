use Rattle.std.proofs.Common.{◌≡◌, ◌-◌, length, None, Some, sym}
use Rattle.std.specs.Prelude.{slice_get}
use Rattle.undo_stack.specs.Entries.{entry_change}
use Rattle.undo_stack.specs.History.{current}
use Rattle.undo_stack.specs.Sides.{StandsBetween, before_last}
use Rattle.undo_stack.specs.Stacks.{history}
use Rattle.undo_stack.proofs.Sides.{last-opened, last-own, lent-or, level-within, none-opened, none-own}
use Rattle.undo_stack.proofs.stack.Stack.last.Goals as goal

pub returns-in-Some : goal.returns-in-Some
returns-in-Some g c = record {
  between = λ held.
      let f = g.C.Command.change in
      let s = c.args.self.now in
      let ls = s.sequences.levels.items in
      let v = c.in-Some.level.now in
      let there : slice_get ls (length ls - 1) ≡ Some v = sym (rw c.deref.ensures.value at c.in-Some.ensures.value) in
      lent-or v.sequence.entries.items v.sequence.index c.last-in-Some.result (before_last (history f s) ≡ current (history f s))
      (λ e. StandsBetween (entry_change f e) (before_last (history f s)) (current (history f s))) c.last-in-Some.ensures
      (level-within f ls s.document (length ls - 1) v there held.levels) (none-opened f s held v there)
      (λ e below. last-opened f s held v e there below);
}

pub returns-in-None : goal.returns-in-None
returns-in-None g c = record {
  between = λ held.
      let f = g.C.Command.change in
      let s = c.args.self.now in
      let q = s.sequences.steps in
      let ls = s.sequences.levels.items in
      let none : slice_get ls (length ls - 1) ≡ None = sym (rw c.deref.ensures.value at c.in-None.ensures.value) in
      lent-or q.entries.items q.index c.last-in-None.result (before_last (history f s) ≡ current (history f s))
      (λ e. StandsBetween (entry_change f e) (before_last (history f s)) (current (history f s))) c.last-in-None.ensures
      held.own.sound.turnable.within (none-own f s held none) (λ e below. last-own f s held e none below);
}
