use Rattle.std.proofs.Common.{◌≡◌, ◌∙◌}
use mir.Syntax.{w32}
use mir.Val.{of_z, to_z}
use Rattle.std.proofs.lemmas.Int.{to_z-of_z}
use Rattle.region.specs.Runs.{in_runs}
use Rattle.region.specs.Walks.{in_moved_runs}
use Rattle.region.proofs.Members.{contains-set_of}
use Rattle.region.proofs.Moving.{in_moved_cut-set_of}
use Rattle.region.proofs.cells.Region.moved_cut.Goals as goal

pub returns : goal.returns
returns c q =
    let runs = c.self.inside.runs.items in
    let dx : to_z w32 (of_z w32 c.args.dx) ≡ c.args.dx = to_z-of_z w32 c.args.dx c.ranges.dx in
    let dy : to_z w32 (of_z w32 c.args.dy) ≡ c.args.dy = to_z-of_z w32 c.args.dy c.ranges.dy in
    let moved : in_runs c.in_ok-runs.runs.items q ≡ in_moved_runs c.as_slice.result.now (to_z w32 (of_z w32 c.args.dx))
    (to_z w32 (of_z w32 c.args.dy)) c.args.w c.args.h q = c.in_ok-runs.ensures.cells q in
    let cells : in_runs c.in_ok-runs.runs.items q ≡ in_moved_runs runs c.args.dx c.args.dy c.args.w c.args.h q =
    rw (← c.as_slice.ensures.value, ← dx, ← dy) moved in
    rw (c.of.ensures, ← c.self.view_is) (contains-set_of c.in_ok-runs.runs.items q ∙ cells ∙ in_moved_cut-set_of c.args.dx c.args.dy c.args.w c.args.h q runs)
