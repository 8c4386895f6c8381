use Rattle.std.proofs.Common.{rules, ℕ, ◌≡◌, suc, ◌-◌, arith}
use Rattle.serde_json.specs.Data.{Members}
use Rattle.serde_json.specs.View.{members_view}
use Rattle.tiled_maps.specs.Packed.{all_cells}
use Rattle.tiled_maps.specs.Formats.{is_counted}
use Rattle.tiled_maps.proofs.PackedWalks.{all_cells-suc, sum_at_end}
use Rattle.tiled_maps.proofs.packed_layers.+all_cells.Goals as goal

pub all_cells-returns : goal.all_cells-returns
all_cells-returns t c =
    let more : c.args.tiers ≡ suc (c.args.tiers - 1) = omega arith in
    let sum = all_cells-suc (is_counted c.args.counted) c.args.tiers (c.args.tiers - 1) c.args.cells (members_view c.args.members.now.entries) more in
    omega (arith, sum, c.layer_cells.ensures, c.cells_below.ensures, c.saturating_add.ensures)

pub cells_in-returns : goal.cells_in-returns
cells_in-returns t c =
    let l = c.loop-layer in
    let cells : Members → ℕ = λ own. all_cells (is_counted c.args.counted) c.args.tiers c.args.cells own in
    sum_at_end cells _ _ l.layer-index l.sum c.deref-layer-items.ensures.value (search rules) l.invariant.0 l.invariant.1
