use Rattle.std.proofs.Common.{arith}
use Rattle.std.proofs.lemmas.Map.Entries.{All-lookup}
use Rattle.undo_stack.specs.Stacks.{Holds}
use Rattle.undo_group.proofs.Entries.{history_named-entries}
use Rattle.undo_group.proofs.NamedStacks.{is_name}
use Rattle.undo_group.proofs.group.Group.get.Goals as goal

pub returns-clause-named : goal.returns-clause-named
returns-clause-named g c = grind (arith, history_named-entries g.C.Command.change c.args.self.now c.requires c.args.name.now)

pub returns-clause-held : goal.returns-clause-held
returns-clause-held g c = grind (arith, All-lookup (Holds g.C.Command.change) (is_name c.args.name.now) c.args.self.now.stacks.entries c.requires.stacks)
