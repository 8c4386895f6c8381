use Rattle.session.proofs.Laws.{read_is_spelled}
use Rattle.session.proofs.spelling.read_is_spelled.Goals as goal

pub returns : goal.returns
returns c = read_is_spelled
