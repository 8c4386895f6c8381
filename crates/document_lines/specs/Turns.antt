-- The rule of a line where steps may be those of free commands: an undo, a redo or a goto may drop such a step.
use Rattle.undo_stack.specs.Turning.{Redoes, SetsIndex, Undoes}
use Rattle.session.specs.declared.line.Line.{Line}
use Rattle.session.specs.declared.line.Line.TheVariants.{Undo, Redo, Goto}
use Rattle.document_lines.specs.Acts.{Calls}
use Rattle.document_lines.specs.Rules.{OnActive, Rule, rule_of}

-- the rule of a line, where it turns steps that may go
abbrev pub turning_rule_of : Line → Rule
turning_rule_of Undo = OnActive (Calls Undoes)
turning_rule_of Redo = OnActive (Calls Redoes)
turning_rule_of (Goto index) = OnActive (Calls (SetsIndex index))
turning_rule_of line = rule_of line
