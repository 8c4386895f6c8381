use Rattle.document_lines.specs.Planning.{edit_change}
use Rattle.memory_editor.proofs.OneMore.{edit-more}
use Rattle.memory_editor.proofs.seen.Seen.with_edit.Goals as goal

pub returns : goal.returns
returns c = edit-more c.args.self.differences c.differs.result c.joined.result (edit_change c.args.edit.now) c.joined.ensures c.differs.ensures
