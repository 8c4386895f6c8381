use Rattle.line_frames.proofs.Laws.{outside-law}
use Rattle.line_frames.proofs.edits_stay_inside.Goals as goal

pub returns : goal.returns
returns c = outside-law
