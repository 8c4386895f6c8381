use Rattle.lines.proofs.Finding.{newline_found}
use Rattle.lines.proofs.reader.LineReader.has_line.Goals as goal

pub returns : goal.returns
returns c = rw c.is_some.ensures (newline_found c.args.self.now.pending c.newline.result c.newline.ensures.found c.newline.ensures.none)
