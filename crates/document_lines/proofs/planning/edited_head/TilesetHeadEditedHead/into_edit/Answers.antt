use Rattle.std.proofs.Common.{refl}
use Rattle.document_lines.proofs.SameChanges.{same-IsSame}
use Rattle.document_lines.proofs.planning.edited_head.TilesetHeadEditedHead.into_edit.Goals as goal

pub returns : goal.returns
returns c = same-IsSame _ _ refl
