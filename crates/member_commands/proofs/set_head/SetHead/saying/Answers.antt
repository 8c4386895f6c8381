use Rattle.member_commands.proofs.set_head.SetHead.saying.Goals as goal

pub holding-requires : goal.holding-requires
holding-requires g c = c.requires c.in-Ok.head (rw c.in-Ok.is at c.read.ensures)
