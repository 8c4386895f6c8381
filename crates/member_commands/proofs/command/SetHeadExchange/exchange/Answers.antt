use Rattle.std.proofs.Common.{sym, ◌∙◌}
use Rattle.member_commands.proofs.Members.{held_turned}
use Rattle.member_commands.proofs.command.SetHeadExchange.exchange.Goals as goal

pub returns : goal.returns
returns g c =
    let s = c.args.self.now in
    held_turned g.H.Head.parts g.met.H.Head.laws s.edit s.id s.follows s.is_same s.is_made s.head c.in-Some.head c.give.result c.args.document.now
    c.give.new.document (sym c.take.ensures.value ∙ c.in-Some.is) c.requires.fits c.give.ensures.own c.give.ensures.document
