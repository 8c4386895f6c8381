use Rattle.std.proofs.Common.{sym, ◌∙◌, rules}
use Rattle.edits.proofs.Extents.{lets_change-empty, lets_change-some}
use Rattle.edits.proofs.extent.lets_change.Goals as goal

pub returns-then-is_empty : goal.returns-then-is_empty
returns-then-is_empty c = sym (lets_change-empty c.args.selection.now (search rules) (c.args.x, c.args.y))

pub returns : goal.returns
returns c = c.contains.ensures ∙ sym (lets_change-some c.args.selection.now (search rules) (c.args.x, c.args.y))
