use Rattle.line_frames.proofs.Laws.{inside-law}
use Rattle.line_frames.proofs.edits_depend_on_what_they_look_at.Goals as goal

pub returns : goal.returns
returns c = inside-law
