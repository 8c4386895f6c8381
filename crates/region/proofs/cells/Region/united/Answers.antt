use Rattle.std.proofs.Common.{◌≡◌, ◌||◌}
use Rattle.std.specs.FinSet as set
use Rattle.region.specs.Equality.{cell_cmp_total}
use Rattle.region.specs.Runs.{in_runs}
use Rattle.region.proofs.Listed.{set_of-is}
use Rattle.region.proofs.Members.{contains-set_of}
use Rattle.region.proofs.cells.Region.united.Goals as goal

pub returns : goal.returns
returns c =
    let a = c.self.inside.runs.items in
    let b = c.other.inside.runs.items in
    let s = c.args.self.now in
    let t = c.args.other.now in
    rw c.of.ensures (set_of-is c.in_ok-runs.runs.items (set.union s t) (λ q.
    let cells : in_runs c.in_ok-runs.runs.items q ≡ (in_runs a q || in_runs b q) =
    rw (← c.as_slice.ensures.value, ← c.as_slice-2.ensures.value) (c.in_ok-runs.ensures.cells q) in
    rw (set.contains-union cell_cmp_total s t q, ← c.self.view_is, ← c.other.view_is, contains-set_of a q, contains-set_of b q) cells))
