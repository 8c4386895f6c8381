use Rattle.undo_stack.specs.Stacks.{history}
use Rattle.undo_group.specs.Stacks.{group_of}
use Rattle.undo_group.proofs.Entries.{group_of-last, number_within}
use Rattle.undo_group.proofs.group.Group.add_active.Goals as goal

pub returns-clause-sound : goal.returns-clause-sound
returns-clause-sound g c =
    let held = c.in_default.ensures.sound in
    record {
      stacks = held.stacks;
      distinct = held.distinct;
      order = held.order;
      within = rw c.last-self.ensures (number_within g.C.Command.change c.add.new.self held _);
    }

pub returns-clause-added : goal.returns-clause-added
returns-clause-added g c =
    let f = g.C.Command.change in
    rw c.last-self.ensures (
    group_of-last f c.add.new.self c.in_default.ensures.sound c.args.name.now (history f c.args.stack) (group_of f c.args.self.now) c.in_default.ensures.added
    )
