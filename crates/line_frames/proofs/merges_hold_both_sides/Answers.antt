use Rattle.line_frames.proofs.Laws.{inside-law, outside-law}
use Rattle.line_frames.proofs.Merging.{merge-law}
use Rattle.line_frames.proofs.merges_hold_both_sides.Goals as goal

pub returns : goal.returns
returns c = merge-law outside-law inside-law
