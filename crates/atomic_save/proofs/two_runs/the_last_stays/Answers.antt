use Rattle.atomic_save.proofs.TwoRuns.{last_stays}
use Rattle.atomic_save.proofs.two_runs.the_last_stays.Goals as goal

pub returns : goal.returns
returns c = λ is_new turns careful start found m path old run bytes last. last_stays start is_new turns careful found m path old run bytes last
