use Rattle.std.proofs.Common.{arith}
use Rattle.undo_group.proofs.Entries.{length-documents}
use Rattle.undo_group.proofs.group.Group.count.Goals as goal

pub returns : goal.returns
returns g c = omega (arith, length-documents g.C.Command.change c.args.self.now c.requires)
