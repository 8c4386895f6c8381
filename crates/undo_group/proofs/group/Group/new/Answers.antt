use Rattle.std.proofs.Common.{refl}
use Rattle.undo_group.proofs.group.Group.new.Goals as goal

pub returns-clause-group : goal.returns-clause-group
returns-clause-group g c = rw c.new-2.ensures.entries refl

pub returns-clause-stacks : goal.returns-clause-stacks
returns-clause-stacks g c = rw c.new-2.ensures.entries refl
