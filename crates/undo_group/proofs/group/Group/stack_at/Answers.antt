use Rattle.std.proofs.Common.{sym, arith}
use Rattle.undo_stack.specs.Stacks.{Holds}
use Rattle.undo_group.proofs.Entries.{slice_get-documents}
use Rattle.undo_group.proofs.Lookups.{All-at}
use Rattle.undo_group.proofs.group.Group.stack_at.Goals as goal

pub returns-in_err-entry_at-clause-placed : goal.returns-in_err-entry_at-clause-placed
returns-in_err-entry_at-clause-placed g c = grind (arith, slice_get-documents g.C.Command.change c.args.self.now c.requires c.args.place)

pub returns-in_err-stack-clause-placed : goal.returns-in_err-stack-clause-placed
returns-in_err-stack-clause-placed g c = grind (arith, slice_get-documents g.C.Command.change c.args.self.now c.requires c.args.place)

pub returns-clause-placed : goal.returns-clause-placed
returns-clause-placed g c = grind (arith, slice_get-documents g.C.Command.change c.args.self.now c.requires c.args.place)

pub returns-clause-held : goal.returns-clause-held
returns-clause-held g c = All-at (λ e. Holds g.C.Command.change e.1) c.args.self.now.stacks.entries _ _ (sym c.in_ok-stack.ensures.entry) c.requires.stacks
