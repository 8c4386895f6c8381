use Rattle.atomic_save.proofs.TwoRuns.{first_save_stands}
use Rattle.atomic_save.proofs.two_runs.a_save_stands.Goals as goal

pub returns : goal.returns
returns c = λ start beside path bytes apart free. (_, first_save_stands start beside path bytes apart free)
