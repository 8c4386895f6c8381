use Rattle.std.proofs.Common.{sym}
use Rattle.document_lines.proofs.edit_command.EditCommand.offer.Goals as goal

pub returns-in-SetTilesetMember-clause-law : goal.returns-in-SetTilesetMember-clause-law
returns-in-SetTilesetMember-clause-law c =
    rw (c.in-SetTilesetMember.is, sym c.deref-in-SetTilesetMember.ensures) c.offer-in-SetTilesetMember.ensures.law
