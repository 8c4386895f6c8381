use Rattle.atomic_save.proofs.TwoRuns.{lose_nothing}
use Rattle.atomic_save.proofs.two_runs.two_runs_lose_nothing.Goals as goal

pub returns : goal.returns
returns c = λ is_new turns careful start found m path old. lose_nothing start is_new turns careful found m path old
