use Rattle.std.proofs.Common.{◌≡◌, ◌∙◌, Ok, ap, arith, rules}
use Rattle.std.specs.Prelude.{codes}
use Rattle.std.proofs.lemmas.Slice.Eq.{text_from_reads}
use Rattle.session.specs.declared.line.Line.TheVariants.{Undo, Redo, Status, UndoText, RedoText}
use Rattle.session.specs.Grammar.{line_of}
use Rattle.session.proofs.Laws.{spelled_is_read}
use Rattle.session_run.proofs.frequent.frequent_line.Goals as goal

pub returns-in-undo : goal.returns-in-undo
returns-in-undo c =
    let is = text_from_reads c.args.line.now (codes "undo") (omega (arith, c.in-undo.len_at_least, c.in-undo.len_below)) (search rules) in
    ap line_of is ∙ spelled_is_read Undo (search rules)

pub returns-in-redo : goal.returns-in-redo
returns-in-redo c =
    let is = text_from_reads c.args.line.now (codes "redo") (omega (arith, c.in-redo.len_at_least, c.in-redo.len_below)) (search rules) in
    ap line_of is ∙ spelled_is_read Redo (search rules)

pub returns-in-status : goal.returns-in-status
returns-in-status c =
    let is = text_from_reads c.args.line.now (codes "status") (omega (arith, c.in-status.len_at_least, c.in-status.len_below)) (search rules) in
    ap line_of is ∙ spelled_is_read Status (search rules)

pub returns-in-undotext : goal.returns-in-undotext
returns-in-undotext c =
    let is = text_from_reads c.args.line.now (codes "undotext") (omega (arith, c.in-undotext.len_at_least, c.in-undotext.len_below)) (search rules) in
    ap line_of is ∙ spelled_is_read UndoText (search rules)

pub returns-in-redotext : goal.returns-in-redotext
returns-in-redotext c =
    let is = text_from_reads c.args.line.now (codes "redotext") (omega (arith, c.in-redotext.len_at_least, c.in-redotext.len_below)) (search rules) in
    ap line_of is ∙ spelled_is_read RedoText (search rules)
