use Rattle.line_frames.proofs.LineLaws.{more_line-law}
use Rattle.line_frames.proofs.lines_for_all_edits_are_edits.Goals as goal

pub returns : goal.returns
returns c = more_line-law
