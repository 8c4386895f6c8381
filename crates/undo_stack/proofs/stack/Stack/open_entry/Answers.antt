use Rattle.std.proofs.Common.{◌≡◌, ◌+◌, length, Some, IsSomeAnd, refl}
use Rattle.std.specs.Prelude.{slice_get}
use Rattle.std.proofs.lemmas.Option.{slice_get_read}
use Rattle.undo_stack.specs.Entries.{entry_change}
use Rattle.undo_stack.specs.Held.{entry_nestings}
use Rattle.undo_stack.specs.Sides.{StandsBetween, inner_document_at}
use Rattle.undo_stack.specs.Stacks.{history}
use Rattle.undo_stack.proofs.Sides.{lent-at, level-between, nests-none}
use Rattle.undo_stack.proofs.stack.Stack.open_entry.Goals as goal

pub returns-in-Some-clause-between : goal.returns-in-Some-clause-between
returns-in-Some-clause-between g c = λ held.
    let f = g.C.Command.change in
    let s = c.args.self.now in
    let ls = s.sequences.levels.items in
    let at = c.args.at in
    let l = c.in-Some.level.now in
    let item = rw c.deref.ensures.value at c.in-Some.ensures.lookup in
    let there : slice_get ls c.args.level ≡ Some l = slice_get_read ls (length ls) c.args.level l refl item.3.0 item.1 in
    lent-at l.sequence.entries.items at c.get-in-Some.result
    (λ e. IsSomeAnd (slice_get (history f s).levels c.args.level)
    (λ o. StandsBetween (entry_change f e) (inner_document_at o at) (inner_document_at o (at + 1)))) c.get-in-Some.ensures.item
    (λ e is. level-between f ls s.document c.args.level at l e there is held.levels)

pub returns-in-None-clause-nests : goal.returns-in-None-clause-nests
returns-in-None-clause-nests g c =
    let ls = c.args.self.now.sequences.levels.items in
    let item = rw c.deref.ensures.value at c.in-None.ensures.lookup in
    nests-none (λ l. entry_nestings l.sequence) ls c.args.level c.args.at item.3
