use Rattle.lines.proofs.Finding.{finds_short, same_refl}
use Rattle.lines.proofs.reader.LineReader.next.Goals as goal

pub returns-then-cut-clause-found : goal.returns-then-cut-clause-found
returns-then-cut-clause-found g c = finds_short _ _ _ _ _ (same_refl _) c.if-cut.ensures.found.1 c.if-cut.ensures.found.0 c.if-cut.ensures.short
