use Rattle.std.proofs.Common.{rules, ℤ, ◌-ℤ◌, w32, w64, to_z, of_z, arith}
use Rattle.std.proofs.lemmas.Int.{ints, clamps, to_z-of_z}
use mir.Val.{SFits}
use Rattle.document_lines.proofs.ToldAreas.{counted, joined-below}
use Rattle.document_lines.proofs.differences.joined_columns.Goals as goal

pub overflow_sub-end : goal.overflow_sub-end
overflow_sub-end c = omega (arith, ints, clamps)

pub returns-in-Ok-clause-one : goal.returns-in-Ok-clause-one
returns-in-Ok-clause-one c =
    let first = c.min-first.result in
    let fits : SFits w32 first = search rules in
    let difference : ℤ = to_z w64 (of_z w64 (to_z w64 (of_z w64 c.max-end.result) -ℤ to_z w64 (of_z w64 c.from.result))) in
    let told = rw c.in-Ok.is at c.try_from.ensures in
    let count = counted difference c.in-Ok.joined told.0 told.1 in
    simp to_z-of_z (joined-below c.args.from first c.args.count c.in-Ok.joined c.max-end.result (omega (arith, ints, clamps)) (omega (arith, ints, clamps))
    (omega (arith, ints, clamps, count)))

pub returns-in-Ok-clause-other : goal.returns-in-Ok-clause-other
returns-in-Ok-clause-other c =
    let first = c.min-first.result in
    let fits : SFits w32 first = search rules in
    let difference : ℤ = to_z w64 (of_z w64 (to_z w64 (of_z w64 c.max-end.result) -ℤ to_z w64 (of_z w64 c.from.result))) in
    let told = rw c.in-Ok.is at c.try_from.ensures in
    let count = counted difference c.in-Ok.joined told.0 told.1 in
    simp to_z-of_z (joined-below c.args.other_from first c.args.other_count c.in-Ok.joined c.max-end.result (omega (arith, ints, clamps))
    (omega (arith, ints, clamps)) (omega (arith, ints, clamps, count)))
