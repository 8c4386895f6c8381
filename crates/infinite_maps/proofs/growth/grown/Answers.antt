use Rattle.std.proofs.Common.{◌≡◌, ℕ, ◌+◌, List, ◌++◌, Bool, sym, ap, add-one}
use Rattle.infinite_maps.specs.declared.plane.Plane.{Plane}
use Rattle.infinite_maps.specs.Growth.{block_count, row_pieces, rows_pieces}
use Rattle.infinite_maps.proofs.growth.grown.Goals as goal

one_more : (p : Plane) (cells : List ℕ) (cover : List Bool) (n : ℕ)
    → rows_pieces p cells cover (n + 1) ≡ rows_pieces p cells cover n ++ row_pieces p cells cover n (block_count p.across p.lost_x p.columns)
one_more p cells cover n = ap (rows_pieces p cells cover) (add-one n)

pub loop-j-preserved : goal.loop-j-preserved
loop-j-preserved c = rw (c.in_ok-add_row.ensures, c.loop-j.invariant) (sym (one_more c.args.plane c.args.cells.now c.args.cover.now c.loop-j.j))
