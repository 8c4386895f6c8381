-- What planning a line for all edits says.
use Rattle.std.specs.Prelude.{◌≡◌, Option, None, Some}
use Rattle.fractions.specs.declared.lines.Fractions.{Fractions}
use Rattle.undo_stack.specs.History.{History, current}
use Rattle.refusals.specs.declared.refusal.Refusal.TheVariants.{NoActiveDocument}
use Rattle.session.specs.declared.more_line.MoreLine.{MoreLine}
use Rattle.document_lines.specs.declared.planned.Planned.{Planned}
use Rattle.document_lines.specs.MoreRules.{answer_of_more}
use Rattle.document_lines.specs.Planning.{PlansEdit, refused}

-- with no active document it is refused, and else it is the plan of an edit of that document
abbrev pub PlansMoreIn : Fractions → MoreLine → Option History → Planned → Type 0
PlansMoreIn fractions line None plan = plan ≡ refused NoActiveDocument
PlansMoreIn fractions line (Some h) plan = PlansEdit (answer_of_more fractions line (current h)) (current h) plan
