use Rattle.std.proofs.Common.{rules, w32}
use Rattle.std.proofs.lemmas.Int.{to_z-of_z}
use mir.Val.{SFits}
use Rattle.edits.specs.Blocks.{is_below, offset}
use Rattle.document_lines.proofs.ToldAreas.{both-true}
use Rattle.memory_editor.proofs.telling.area_within.Goals as goal

pub returns : goal.returns
returns c = λ x y left below h.
    let area = c.args.area in
    let parts = c.parts-parts.ensures.value in
    let from_x : SFits w32 area.x = search rules in
    let from_y : SFits w32 area.y = search rules in
    let first_x : SFits w32 c.columns_within-x.result.0 = search rules in
    let first_y : SFits w32 c.columns_within-y.result.0 = search rules in
    let columns = rw (to_z-of_z w32 area.x from_x) at c.columns_within-x.ensures x (rw parts left) in
    let rows = rw (to_z-of_z w32 area.y from_y) at c.columns_within-y.ensures y (rw parts below) in
    rw (to_z-of_z w32 c.columns_within-x.result.0 first_x, to_z-of_z w32 c.columns_within-y.result.0 first_y)
    (both-true (is_below (offset area.x x) area.width) (is_below (offset area.y y) area.height) _ _ columns rows h)
