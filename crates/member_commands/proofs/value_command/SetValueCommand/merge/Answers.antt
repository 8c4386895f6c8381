use Rattle.std.proofs.Common.{true, false, refl}
use Rattle.std.specs.Option.{option_copied}
use Rattle.command_api.specs.Heads.{shown_head}
use Rattle.member_commands.proofs.Offers.{takes-tagged, value-merged}
use Rattle.member_commands.proofs.value_command.SetValueCommand.merge.Goals as goal

pub returns-then-not-is_tagged-clause-answer : goal.returns-then-not-is_tagged-clause-answer
returns-then-not-is_tagged-clause-answer c =
    rw c.in-Member.is (takes-tagged _ false c.owner.result (option_copied c.in-Member.name) (shown_head c.in-Member.before) c.owner.ensures
    (c.if-not-is_tagged.ensures c.args.self.now.follows))

pub returns-clause-answer : goal.returns-clause-answer
returns-clause-answer c =
    rw c.in-Member.is (takes-tagged _ true c.owner.result (option_copied c.in-Member.name) (shown_head c.in-Member.before) c.owner.ensures
    (c.if-not-is_tagged.ensures c.args.self.now.follows))

pub returns-clause-merged : goal.returns-clause-merged
returns-clause-merged c = λ done.
    let s = c.args.self.now in
    let tag = rw (c.owner.ensures, c.in-TilesetMember.is) at ((c.if-not-is_tagged.ensures s.follows).0 refl) in
    let asked = rw (c.in-Member.is, c.in-TilesetMember.is) at c.requires in
    rw (c.in-Member.is, c.in-TilesetMember.is)
    (value-merged s.name s.first_id s.follows s.is_same c.is_of-self.result s.is_made c.in-TilesetMember.field-1.now c.args.document.now s.value
    (option_copied c.in-Member.name) c.in-TilesetMember.field-0 tag asked s.holds c.is_of-self.ensures.0 c.is_of-self.ensures.1)
