use Rattle.std.proofs.Common.{◌<◌, ◌^◌, Some, None, w32, arith}
use Rattle.std.proofs.lemmas.Int.{to_z_pos, to_z-of_z}
use Rattle.session.proofs.Signs.{minus_none, minus_found, plain_found, fits_below}
use Rattle.session.proofs.words.coordinate_before.Goals as goal

pub returns-in_err-distance-in-Some : goal.returns-in_err-distance-in-Some
returns-in_err-distance-in-Some c =
    let at = rw c.in-Some.is at c.behind_minus.ensures.some in
    rw (c.from_residual.ensures, at) (minus_none _ c.in_err-distance-in-Some.ensures.distance)

pub returns-in_err-negative-in-Some : goal.returns-in_err-negative-in-Some
returns-in_err-negative-in-Some c =
    let at = rw c.in-Some.is at c.behind_minus.ensures.some in
    let found = c.in_ok-distance-in-Some in
    rw (c.from_residual-in_err-negative-in-Some.ensures, at)
    (minus_found _ found.distance found.rest None found.ensures.distance c.in_err-negative-in-Some.ensures)

pub returns-in_err-distance-in-None : goal.returns-in_err-distance-in-None
returns-in_err-distance-in-None c =
    let at = rw c.in-None.is at c.behind_minus.ensures.none in
    rw c.from_residual-in_err-distance-in-None.ensures (plain_found c.args.text.now at None c.in_err-distance-in-None.ensures.distance)

pub returns-in_ok-negative-in-Some : goal.returns-in_ok-negative-in-Some
returns-in_ok-negative-in-Some c =
    let at = rw c.in-Some.is at c.behind_minus.ensures.some in
    let found = c.in_ok-distance-in-Some in
    let z = c.in_ok-negative-in-Some.field-0 in
    let fits = fits_below found.distance z c.in_ok-negative-in-Some.ensures found.ensures.within in
    rw (to_z-of_z w32 z fits, at) (minus_found _ found.distance found.rest (Some z) found.ensures.distance c.in_ok-negative-in-Some.ensures)

pub returns-in_ok-distance-in-None : goal.returns-in_ok-distance-in-None
returns-in_ok-distance-in-None c =
    let at = rw c.in-None.is at c.behind_minus.ensures.none in
    let found = c.in_ok-distance-in-None in
    let small : found.distance < 2 ^ 31 = omega (arith, found.ensures.within) in
    rw (to_z_pos w32 found.distance small) (plain_found c.args.text.now at (Some (found.distance, found.rest)) found.ensures.distance)
