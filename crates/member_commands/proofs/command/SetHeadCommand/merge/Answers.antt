use Rattle.std.proofs.Common.{refl, sym, ◌∙◌}
use Rattle.std.specs.Option.{option_copied}
use Rattle.command_api.specs.Heads.{shown_head}
use Rattle.member_commands.proofs.Offers.{merged_by}
use Rattle.member_commands.proofs.command.SetHeadCommand.merge.Goals as goal

pub returns-clause-merged : goal.returns-clause-merged
returns-clause-merged g c = λ done.
    let s = c.args.self.now in
    let tag = rw (c.owner.ensures, c.owner-2.ensures) at ((c.if-not-is_tagged.ensures s.follows).0 refl) in
    let asked = rw c.in-Member.is at c.requires in
    rw c.in-Member.is
    (merged_by g.H.Head.parts g.met.H.Head.laws s.id s.edit s.follows s.is_same c.is_of-self.result s.is_made s.head (option_copied c.in-Member.name)
    (shown_head c.in-Member.before) c.args.document.now tag asked (rw c.in-Some.is refl) (λ b. c.is_of-self.ensures.0 b ∙ sym c.in-Some.is)
    (λ q. c.is_of-self.ensures.1 (q ∙ c.in-Some.is)))
