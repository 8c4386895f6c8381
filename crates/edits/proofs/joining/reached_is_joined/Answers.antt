use Rattle.edits.proofs.Laws.{reached_is_joined}
use Rattle.edits.proofs.joining.reached_is_joined.Goals as goal

pub returns : goal.returns
returns c = reached_is_joined
