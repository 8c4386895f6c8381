use Rattle.xml_text.proofs.WordLaws.{split}
use Rattle.xml_text.proofs.words.cut.Goals as goal

pub returns-clause-parts : goal.returns-clause-parts
returns-clause-parts c = split _ _ _ c.requires c.split_once.ensures.cases
