use Rattle.std.proofs.Common.{sym, ◌∙◌}
use Rattle.region.proofs.Members.{contains-set_of}
use Rattle.region.proofs.cells.Region.contains.Goals as goal

pub returns : goal.returns
returns c =
    let has = rw c.as_slice.ensures.value at c.any_has.ensures in
    rw (← c.self.view_is) (has ∙ sym (contains-set_of c.self.inside.runs.items (c.args.x, c.args.y)))
