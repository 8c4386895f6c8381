-- How often a store is asked for a line, and for what; and what it keeps of a map that is said to be saved.
use Rattle.std.specs.Prelude.{◌≡◌, ℕ, List, Option, None, Some, Result, Ok, Err}
use Rattle.map_store.specs.Asking.{Asked}
use Rattle.session.specs.declared.line.Line.{Line}
use Rattle.refusals.specs.declared.line_fault.LineFault.{LineFault}
use Rattle.session.specs.declared.reply.Reply.{Reply}
use Rattle.session.specs.Grammar.{line_of}
use Rattle.document_lines.specs.Machine.{Machine}
use Rattle.editor.specs.Asking.{Asks, Keeps}

-- a line that is replied to asks as its reply says, and a quiet one asks for nothing
abbrev pub LineAsks : Line → Machine → Keeps → Option Reply → List Asked → List Asked → Type 0
LineAsks line m keeps (Some reply) old new = Asks line m keeps reply old new
LineAsks line m keeps None old new = new ≡ old

-- nor do bytes that are no line
abbrev pub AsksOf : Result Line LineFault → Machine → Keeps → Option Reply → List Asked → List Asked → Type 0
AsksOf (Ok line) m keeps reply old new = LineAsks line m keeps reply old new
AsksOf (Err fault) m keeps reply old new = new ≡ old

-- for the bytes of a line
abbrev pub AsksIn : List ℕ → Machine → Keeps → Option Reply → List Asked → List Asked → Type 0
AsksIn bytes = AsksOf (line_of bytes)
