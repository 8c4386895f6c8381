use Rattle.std.proofs.Common.{rules, w32, to_z, of_z, arith}
use Rattle.std.proofs.lemmas.Int.{ints}
use mir.Val.{SFits}
use Rattle.document_lines.proofs.ToldAreas.{area-holds}
use Rattle.document_lines.proofs.differences.joined_areas.Goals as goal

pub returns-clause-one : goal.returns-clause-one
returns-clause-one c =
    let x = c.in_ok-x.x in
    let y = c.in_ok-y.y in
    let own = c.args.one in
    let own_column : SFits w32 own.x = search rules in
    let own_row : SFits w32 own.y = search rules in
    let column : SFits w32 x = search rules in
    let row : SFits w32 y = search rules in
    area-holds own (record { x = to_z w32 (of_z w32 x); y = to_z w32 (of_z w32 y); width = c.in_ok-x.width; height = c.in_ok-y.height })
    (to_z w32 (of_z w32 own.x)) (to_z w32 (of_z w32 own.y)) x y (omega (arith, ints)) (omega (arith, ints)) (omega (arith, ints)) (omega (arith, ints))
    c.in_ok-x.ensures.one c.in_ok-y.ensures.one

pub returns-clause-other : goal.returns-clause-other
returns-clause-other c =
    let x = c.in_ok-x.x in
    let y = c.in_ok-y.y in
    let own = c.args.other in
    let own_column : SFits w32 own.x = search rules in
    let own_row : SFits w32 own.y = search rules in
    let column : SFits w32 x = search rules in
    let row : SFits w32 y = search rules in
    area-holds own (record { x = to_z w32 (of_z w32 x); y = to_z w32 (of_z w32 y); width = c.in_ok-x.width; height = c.in_ok-y.height })
    (to_z w32 (of_z w32 own.x)) (to_z w32 (of_z w32 own.y)) x y (omega (arith, ints)) (omega (arith, ints)) (omega (arith, ints)) (omega (arith, ints))
    c.in_ok-x.ensures.other c.in_ok-y.ensures.other
