use Rattle.std.proofs.Common.{◌≡◌, ℕ, ◌+◌, List, ◌++◌, Bool, sym, ap, ◌∙◌, append_assoc, add-one}
use Rattle.infinite_maps.specs.declared.plane.Plane.{Plane}
use Rattle.infinite_maps.specs.Growth.{block_at, pieces, row_pieces}
use Rattle.infinite_maps.proofs.growth.add_row.Goals as goal

one_more : (p : Plane) (cells : List ℕ) (cover : List Bool) (j n : ℕ)
    → row_pieces p cells cover j (n + 1) ≡ row_pieces p cells cover j n ++ pieces p.columns cells cover (block_at p j n)
one_more p cells cover j n = ap (row_pieces p cells cover j) (add-one n)

pub loop-i-preserved : goal.loop-i-preserved
loop-i-preserved c =
    let found = c.args.found.now.items in
    let more = sym (one_more c.args.plane c.args.cells.now c.args.cover.now c.args.j c.loop-i.i) in
    rw (c.in_ok-add_pieces.ensures, c.loop-i.invariant, c.block_at.ensures) (append_assoc found _ _ ∙ ap (λ xs. found ++ xs) more)
