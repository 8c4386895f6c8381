use Rattle.edits.proofs.Marking.{bit_at-stretch}
use Rattle.edits.proofs.marks.bits_between.Goals as goal

pub returns : goal.returns
returns c i l = bit_at-stretch c.args.first c.args.last i c.requires.ordered c.requires.within l
