use Rattle.std.proofs.Common.{◌≡◌, ℕ, ap, sym, ◌∙◌, List}
use Rattle.std.specs.FinSet as set
use Rattle.region.specs.declared.runs.Run.{Run}
use Rattle.region.specs.Cells.{cell_cmp, set_of}
use Rattle.region.specs.Runs.{in_runs}
use Rattle.region.proofs.Members.{contains-set_of}
use Rattle.region.proofs.NextRuns.{IsNextRun-along, HasNone-along}
use Rattle.region.proofs.cells.Region.next_run.Goals as goal

-- the set has the cells of its runs
has : (s : set.FinSet cell_cmp) (runs items : List Run) → set_of items ≡ s → runs ≡ items → (q : ℕ × ℕ) → set.contains s q ≡ in_runs runs q
has s runs items is lent q = ap (λ t. set.contains t q) (sym is) ∙ contains-set_of items q ∙ ap (λ rs. in_runs rs q) (sym lent)

pub returns-clause-some : goal.returns-clause-some
returns-clause-some c =
    let s = c.args.self.now in
    let runs = c.as_slice.result.now in
    IsNextRun-along (in_runs runs) (set.contains s) (has s runs c.self.inside.runs.items c.self.view_is c.as_slice.ensures.value) c.args.y c.args.from
    c.args.end c.next_in.result c.next_in.ensures.some

pub returns-clause-none : goal.returns-clause-none
returns-clause-none c =
    let s = c.args.self.now in
    let runs = c.as_slice.result.now in
    HasNone-along (in_runs runs) (set.contains s) (has s runs c.self.inside.runs.items c.self.view_is c.as_slice.ensures.value) c.args.y c.args.from c.args.end
    c.next_in.result c.next_in.ensures.none
