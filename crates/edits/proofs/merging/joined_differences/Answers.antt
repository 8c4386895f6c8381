use Rattle.edits.proofs.Merged.{joined-difference_in}
use Rattle.edits.proofs.merging.joined_differences.Goals as goal

pub returns : goal.returns
returns c = joined-difference_in
