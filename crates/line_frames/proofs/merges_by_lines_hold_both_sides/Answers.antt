use Rattle.line_frames.proofs.Laws.{inside-law, outside-law}
use Rattle.line_frames.proofs.LineLaws.{line_merge-law}
use Rattle.line_frames.proofs.Merging.{merge-law}
use Rattle.line_frames.proofs.merges_by_lines_hold_both_sides.Goals as goal

pub returns : goal.returns
returns c = line_merge-law (merge-law outside-law inside-law)
