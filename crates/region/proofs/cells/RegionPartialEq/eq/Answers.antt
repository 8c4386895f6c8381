use Rattle.std.proofs.Common.{◌≡◌, sym, ap, ◌∙◌}
use Rattle.std.specs.Bool.{Decides, one_answer}
use Rattle.std.proofs.lemmas.Slice.Eq.{slice_eq-Decides}
use Rattle.region.specs.Cells.{set_of}
use Rattle.region.specs.Equality.{same_cells}
use Rattle.region.proofs.Listed.{run_eq-Decides, set_of-same, same_cells-Decides}
use Rattle.region.proofs.cells.RegionPartialEq.eq.Goals as goal

pub returns-clause-same : goal.returns-clause-same
returns-clause-same c =
    let a = c.self.inside.runs.items in
    let b = c.other.inside.runs.items in
    let runs : Decides c.eq.result (a ≡ b) = slice_eq-Decides run_eq-Decides a b c.eq.result c.eq.ensures in (
      λ yes. sym c.self.view_is ∙ ap set_of (runs.0 yes) ∙ c.other.view_is,
      λ same. runs.1 (set_of-same a b c.self.invariant c.other.invariant (c.self.view_is ∙ same ∙ sym c.other.view_is)),
    )

pub returns-clause-eq : goal.returns-clause-eq
returns-clause-eq c =
    let a = c.self.inside.runs.items in
    let b = c.other.inside.runs.items in
    let runs : Decides c.eq.result (a ≡ b) = slice_eq-Decides run_eq-Decides a b c.eq.result c.eq.ensures in
    let s = c.args.self.now in
    let t = c.args.other.now in
    one_answer c.eq.result (same_cells s t) (
      λ yes. sym c.self.view_is ∙ ap set_of (runs.0 yes) ∙ c.other.view_is,
      λ same. runs.1 (set_of-same a b c.self.invariant c.other.invariant (c.self.view_is ∙ same ∙ sym c.other.view_is)),
    )
    (same_cells-Decides s t)
