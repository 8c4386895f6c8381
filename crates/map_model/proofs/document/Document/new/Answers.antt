use Rattle.std.proofs.Common.{rules}
use Rattle.map_model.proofs.Selections.{empty-LiesIn}
use Rattle.map_model.proofs.document.Document.new.Goals as goal

pub invariant_of-result : goal.invariant_of-result
invariant_of-result c = record { map = search rules; selection = empty-LiesIn c.args.map.width c.args.map.height c.empty.result c.empty.ensures }
