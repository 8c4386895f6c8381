use Rattle.std.proofs.Common.{◌<◌, ◌^◌, Some, w32, arith}
use Rattle.std.proofs.lemmas.Int.{to_z_pos}
use Rattle.session.proofs.Signs.{plain_found}
use Rattle.session.proofs.words.short_coordinate_before.Goals as goal

pub returns-in_ok-distance-in-None : goal.returns-in_ok-distance-in-None
returns-in_ok-distance-in-None c =
    let at = rw c.in-None.is at c.behind_minus.ensures.none in
    let found = c.in_ok-distance-in-None in
    let small : found.distance < 2 ^ 31 = omega (arith, found.ensures.within) in
    rw (to_z_pos w32 found.distance small) (plain_found c.args.text.now at (Some (found.distance, found.rest)) found.ensures.distance)
