use Rattle.session.proofs.Apart.{more_is_not_a_line}
use Rattle.session.proofs.more_spelling.more_is_not_a_line.Goals as goal

pub returns : goal.returns
returns c = more_is_not_a_line
