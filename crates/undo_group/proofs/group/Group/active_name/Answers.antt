use Rattle.std.proofs.Common.{◌≡◌, Some, sym, ◌∙◌, ap, arith}
use Rattle.undo_group.proofs.Entries.{active_name-number}
use Rattle.undo_group.proofs.group.Group.active_name.Goals as goal

pub returns : goal.returns
returns g c =
    let number : c.args.self.now.active ≡ Some c.in_ok-self.field-0 = grind arith in
    ap Some c.as_str.ensures.value
    ∙ sym (active_name-number g.C.Command.change c.args.self.now c.requires c.in_ok-self.field-0 _ number (sym c.in_ok-name.ensures.entry))
