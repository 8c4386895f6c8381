use Rattle.member_commands.proofs.Members.{held_makes}
use Rattle.member_commands.proofs.set_head.SetHead.holding.Goals as goal

pub returns : goal.returns
returns g c =
    held_makes g.H.Head.parts g.met.H.Head.laws c.args.edit c.args.id c.args.follows c.is_of-is_same.result c.args.document.now c.args.head c.requires
    c.is_of-is_same.ensures.0 c.is_of-is_same.ensures.1
