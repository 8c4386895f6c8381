use Rattle.line_frames.proofs.LineLaws.{line-law}
use Rattle.line_frames.proofs.lines_are_edits.Goals as goal

pub returns : goal.returns
returns c = line-law
