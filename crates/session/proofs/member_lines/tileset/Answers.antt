use Rattle.std.proofs.Common.{sym}
use Rattle.session.proofs.MoreOwners.{tileset_more}
use Rattle.session.proofs.member_lines.tileset.Goals as goal

pub returns-in-Some-default-Some : goal.returns-in-Some-default-Some
returns-in-Some-default-Some c =
    let found = c.in-Some-default-Some in
    rw (c.cut.ensures.pieces, c.in-Some.is) (sym
    (tileset_more c.cut.result.0.now _ found.field-0-0 found.field-0-1-0 (rw found.field-0-1-is at found.ensures.number)))
