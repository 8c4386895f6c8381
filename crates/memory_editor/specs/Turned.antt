-- What is told of the documents on the two sides of a step, and of a turn.
use Rattle.document_lines.specs.declared.differences.Differences.{Differences}
use Rattle.memory_editor.specs.declared.told.Told.{Told}

-- what may differ, as it is told
abbrev pub differences_of : Told → Differences
differences_of told = record { outline = told.outline; selection = told.selection; cells = told.cells }
