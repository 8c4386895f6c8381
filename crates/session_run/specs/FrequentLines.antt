-- Frequent lines of one word, as lines.
use Rattle.session.specs.declared.line.Line.{Line}
use Rattle.session.specs.declared.line.Line.TheVariants as lines
use Rattle.session_run.specs.declared.frequent.FrequentLine.{FrequentLine}
use Rattle.session_run.specs.declared.frequent.FrequentLine.TheVariants.{Undo, Redo, Status, UndoText, RedoText}

-- the line that a frequent one is
abbrev pub line_named : FrequentLine → Line
line_named Undo = lines.Undo
line_named Redo = lines.Redo
line_named Status = lines.Status
line_named UndoText = lines.UndoText
line_named RedoText = lines.RedoText
