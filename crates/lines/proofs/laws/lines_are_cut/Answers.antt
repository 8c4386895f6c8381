use Rattle.lines.proofs.Finding.{lines_are_cut}
use Rattle.lines.proofs.laws.lines_are_cut.Goals as goal

pub returns : goal.returns
returns c = lines_are_cut
