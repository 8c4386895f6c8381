use Rattle.std.proofs.Common.{arith}
use Rattle.undo_group.proofs.Entries.{slice_get-documents}
use Rattle.undo_group.proofs.group.Group.name_at.Goals as goal

pub returns-in_err-entry_at : goal.returns-in_err-entry_at
returns-in_err-entry_at g c = grind (arith, slice_get-documents g.C.Command.change c.args.self.now c.requires c.args.place)

pub returns-in_err-name : goal.returns-in_err-name
returns-in_err-name g c = grind (arith, slice_get-documents g.C.Command.change c.args.self.now c.requires c.args.place)

pub returns : goal.returns
returns g c = grind (arith, slice_get-documents g.C.Command.change c.args.self.now c.requires c.args.place)
