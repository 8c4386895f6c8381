-- Of each step of all open documents whether it is a macro, and what a line makes of that where the lines for all edits are read too.
use Rattle.std.specs.Prelude.{◌≡◌, ℕ, List, Option, Some, None, Result, Ok, Err}
use Rattle.fractions.specs.declared.lines.Fractions.{Fractions}
use Rattle.undo_stack.specs.History.{current}
use Rattle.session.specs.declared.line.Line.{Line}
use Rattle.session.specs.declared.more_line.MoreLine.{MoreLine}
use Rattle.refusals.specs.declared.line_fault.LineFault.{LineFault}
use Rattle.session.specs.declared.reply.Reply.{Reply}
use Rattle.session.specs.Grammar.{line_of}
use Rattle.session.specs.MoreGrammar.{more_line_of}
use Rattle.document_lines.specs.declared.dialect.Dialect.{Dialect}
use Rattle.document_lines.specs.declared.dialect.Dialect.TheVariants.{Plain, AllEdits}
use Rattle.document_lines.specs.Kinds.{EditsKinds}
use Rattle.document_lines.specs.Machine.{Machine, active_of}
use Rattle.document_lines.specs.MoreRules.{answer_of_more}
use Rattle.editor.specs.Kinds.{ActiveKinds, Kinds, StepKinds, StepKindsIn, UnlessRefused}

-- a line for all edits with this reply
abbrev pub MoreStepKinds : Fractions → MoreLine → Machine → Option Reply → Machine → List Kinds → List Kinds → Type 0
MoreStepKinds fractions line m None n old new = new ≡ old
MoreStepKinds fractions line m (Some reply) n old new =
    UnlessRefused reply (ActiveKinds (λ h k ks ns. EditsKinds (answer_of_more fractions line (current h)) h k ks ns) m.group.active (active_of m) (active_of n))
    old new

abbrev pub MoreStepKindsOf : Fractions → Result MoreLine LineFault → Machine → Option Reply → Machine → List Kinds → List Kinds → Type 0
MoreStepKindsOf fractions (Ok line) m reply n old new = MoreStepKinds fractions line m reply n old new
MoreStepKindsOf fractions (Err fault) m reply n old new = new ≡ old

abbrev pub AnyStepKindsOf : Fractions → Result Line LineFault → List ℕ → Machine → Option Reply → Machine → List Kinds → List Kinds → Type 0
AnyStepKindsOf fractions (Ok line) bytes m reply n old new = StepKinds line m reply n old new
AnyStepKindsOf fractions (Err fault) bytes m reply n old new = MoreStepKindsOf fractions (more_line_of bytes) m reply n old new

-- what the bytes of any line make of the lists, beside the step from m to n
abbrev pub AnyStepKindsIn : Fractions → List ℕ → Machine → Option Reply → Machine → List Kinds → List Kinds → Type 0
AnyStepKindsIn fractions bytes = AnyStepKindsOf fractions (line_of bytes) bytes

-- and by which lines are read
abbrev pub StepKindsFor : Dialect → List ℕ → Machine → Option Reply → Machine → List Kinds → List Kinds → Type 0
StepKindsFor Plain = StepKindsIn
StepKindsFor (AllEdits fractions) = AnyStepKindsIn fractions
