use Rattle.std.proofs.Common.{rules, ℤ, ◌≡◌, ◌<◌, ◌^◌, ◌-ℤ◌, ◌+ℤ◌, pos, w32, w64, to_z, of_z, subst, arith}
use Rattle.std.specs.Int.{FitsUnsignedBits, int_max, int_min}
use Rattle.std.proofs.lemmas.Int.{ints, clamps, to_z-of_z}
use mir.Val.{SFits}
use Rattle.document_lines.proofs.ToldAreas.{counted}
use Rattle.memory_editor.proofs.Shown.{columns-within, some-columns}
use Rattle.memory_editor.proofs.telling.columns_within.Goals as goal

pub returns-in-Ok : goal.returns-in-Ok
returns-in-Ok c = λ at l h.
    let first = c.max-first.result in
    let end = c.min-end.result in
    let fits : SFits w32 first = search rules in
    let difference : ℤ = to_z w64 (of_z w64 (to_z w64 (of_z w64 end) -ℤ to_z w64 (of_z w64 c.from-4.result))) in
    let told = rw c.in-Ok.is at c.try_from.ensures in
    let count = counted difference c.in-Ok.within told.0 told.1 in
    let begins : first ≡ int_max c.args.from (pos 0) = omega (arith, ints, clamps) in
    let ends : end ≡ int_min (c.args.from +ℤ pos c.args.count) (pos c.args.all) = omega (arith, ints, clamps) in
    simp to_z-of_z (columns-within c.args.from first end c.args.count c.args.all c.in-Ok.within begins ends (omega (arith, ints, clamps, count)) at l h)

pub returns-in-Err : goal.returns-in-Err
returns-in-Err c = λ at l h.
    let first = c.max-first.result in
    let end = c.min-end.result in
    let difference : ℤ = to_z w64 (of_z w64 (to_z w64 (of_z w64 end) -ℤ to_z w64 (of_z w64 c.from-4.result))) in
    let begins : first ≡ int_max c.args.from (pos 0) = omega (arith, ints, clamps) in
    let ends : end ≡ int_min (c.args.from +ℤ pos c.args.count) (pos c.args.all) = omega (arith, ints, clamps) in
    let fits : SFits w32 first = search rules in
    let few : c.args.all < 2 ^ 32 = search rules in
    let same : end -ℤ first ≡ difference = omega (arith, ints, clamps) in
    let told = rw c.in-Err.is at c.try_from.ensures in
    absurd (told (subst (FitsUnsignedBits 32) same (some-columns c.args.from first end c.args.count c.args.all at begins ends few l h)))
