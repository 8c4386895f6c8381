use Rattle.std.proofs.Common.{arith, length}
use Rattle.undo_group.proofs.Entries.{active_place-number}
use Rattle.undo_group.proofs.Shifting.{placed_of}
use Rattle.undo_group.proofs.group.Group.active_place.Goals as goal

pub place_of-requires : goal.place_of-requires
place_of-requires g c =
    let self = c.args.self.now in
    grind (arith, (placed_of self.order (length self.stacks.entries) c.requires.order).places, c.requires.within)

pub returns-in_err-self : goal.returns-in_err-self
returns-in_err-self g c = grind (arith, active_place-number g.C.Command.change c.args.self.now c.requires)

pub returns : goal.returns
returns g c = grind (arith, active_place-number g.C.Command.change c.args.self.now c.requires)
