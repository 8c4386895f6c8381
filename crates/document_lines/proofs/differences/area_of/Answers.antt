use Rattle.std.proofs.Common.{rules, ◌+◌, ◌^◌, ◌<◌, w32, to_z, of_z, arith}
use Rattle.std.proofs.lemmas.Int.{ints}
use Rattle.document_lines.proofs.ToldAreas.{holds-between}
use Rattle.document_lines.proofs.differences.area_of.Goals as goal

pub returns : goal.returns
returns c =
    let left = c.columns_of-left.result.0 in
    let right = c.columns_of-left.result.1 in
    let fits : left < 2 ^ 16 = search rules in
    let fits_top : c.args.first.y < 2 ^ 16 = search rules in
    holds-between left right c.args.first.y c.args.last.y
    (record {
      x = to_z w32 (of_z w32 c.from.result);
      y = to_z w32 (of_z w32 c.from-2.result);
      width = c.from-3.result + 1;
      height = c.from-4.result + 1;
    })
    (omega (arith, ints, c.from.ensures)) (omega (arith, ints, c.from-2.ensures)) (omega (arith, c.from-3.ensures, c.saturating_sub.ensures))
    (omega (arith, c.from-4.ensures, c.saturating_sub-2.ensures))
    c.args.cells.now c.columns_of-left.ensures
