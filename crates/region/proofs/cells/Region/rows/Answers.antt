use Rattle.std.proofs.Common.{sym, ◌∙◌}
use Rattle.region.proofs.Listed.{cells_in_order, set_of-same}
use Rattle.region.proofs.cells.Region.rows.Goals as goal

pub returns-clause-once : goal.returns-clause-once
returns-clause-once c = rw (c.over.ensures, c.as_slice.ensures.value) (cells_in_order c.self.inside.runs.items c.self.invariant)

pub returns-clause-unique : goal.returns-clause-unique
returns-clause-unique c runs maximal same =
    rw (c.over.ensures, c.as_slice.ensures.value) (set_of-same runs c.self.inside.runs.items maximal c.self.invariant (same ∙ sym c.self.view_is))
