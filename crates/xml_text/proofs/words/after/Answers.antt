use Rattle.xml_text.proofs.WordLaws.{stripped}
use Rattle.xml_text.proofs.words.after.Goals as goal

pub returns-clause-text : goal.returns-clause-text
returns-clause-text c = stripped _ _ _ c.strip_prefix.ensures.cases
