use Rattle.std.proofs.Common.{arith}
use Rattle.edits.proofs.Marking.{has_bit-set_word}
use Rattle.edits.proofs.marks.Marks.set_word.Goals as goal

pub returns-clause-marks : goal.returns-clause-marks
returns-clause-marks c k = has_bit-set_word c.args.self.now.words.items c.args.word c.args.bits k (omega arith)
