use Rattle.std.proofs.Common.{◌≡◌, Ok, Some, ap, refl}
use Rattle.session.specs.Grammar.{line_of}
use Rattle.session.specs.declared.line.Line.TheVariants.{Undo, Redo, Status, UndoText, RedoText}
use Rattle.editor.proofs.KindLists.{kept-UnlessRefused}
use Rattle.session_run.proofs.Dialects.{read_kinds, read_step}
use Rattle.session_run.proofs.running.step_told.Goals as goal

pub returns-in-Some-Undo-clause-step : goal.returns-in-Some-Undo-clause-step
returns-in-Some-Undo-clause-step g c =
    let read : line_of c.args.line.now ≡ Ok Undo = rw c.in-Some-Undo.field-0-is at c.in-Some-Undo.ensures in
    read_step c.args.dialect c.args.line.now Undo _ _ _ read (c.undo.ensures.step c.requires.sound (g.S.MapStore.stored c.args.store.now))

pub returns-in-Some-Redo-clause-step : goal.returns-in-Some-Redo-clause-step
returns-in-Some-Redo-clause-step g c =
    let read : line_of c.args.line.now ≡ Ok Redo = rw c.in-Some-Redo.field-0-is at c.in-Some-Redo.ensures in
    read_step c.args.dialect c.args.line.now Redo _ _ _ read (c.redo.ensures.step c.requires.sound (g.S.MapStore.stored c.args.store.now))

pub returns-in-Some-Status-clause-step : goal.returns-in-Some-Status-clause-step
returns-in-Some-Status-clause-step g c =
    let read : line_of c.args.line.now ≡ Ok Status = rw c.in-Some-Status.field-0-is at c.in-Some-Status.ensures in
    read_step c.args.dialect c.args.line.now Status _ _ _ read ((ap Some c.status.ensures, refl), refl)

pub returns-in-Some-Undo-clause-kinds : goal.returns-in-Some-Undo-clause-kinds
returns-in-Some-Undo-clause-kinds g c =
    let read : line_of c.args.line.now ≡ Ok Undo = rw c.in-Some-Undo.field-0-is at c.in-Some-Undo.ensures in
    read_kinds c.args.dialect c.args.line.now Undo _ _ _ _ _ read (c.undo.ensures.kinds c.requires.sound)

pub returns-in-Some-Redo-clause-kinds : goal.returns-in-Some-Redo-clause-kinds
returns-in-Some-Redo-clause-kinds g c =
    let read : line_of c.args.line.now ≡ Ok Redo = rw c.in-Some-Redo.field-0-is at c.in-Some-Redo.ensures in
    read_kinds c.args.dialect c.args.line.now Redo _ _ _ _ _ read (c.redo.ensures.kinds c.requires.sound)

pub returns-in-Some-Status-clause-kinds : goal.returns-in-Some-Status-clause-kinds
returns-in-Some-Status-clause-kinds g c =
    let read : line_of c.args.line.now ≡ Ok Status = rw c.in-Some-Status.field-0-is at c.in-Some-Status.ensures in
    read_kinds c.args.dialect c.args.line.now Status _ _ _ _ _ read (kept-UnlessRefused c.status.result _ _ refl)

pub returns-in-Some-UndoText-clause-step : goal.returns-in-Some-UndoText-clause-step
returns-in-Some-UndoText-clause-step g c =
    let read : line_of c.args.line.now ≡ Ok UndoText = rw c.in-Some-UndoText.field-0-is at c.in-Some-UndoText.ensures in
    read_step c.args.dialect c.args.line.now UndoText _ _ _ read (c.undo_text.ensures, refl)

pub returns-in-Some-UndoText-clause-kinds : goal.returns-in-Some-UndoText-clause-kinds
returns-in-Some-UndoText-clause-kinds g c =
    let read : line_of c.args.line.now ≡ Ok UndoText = rw c.in-Some-UndoText.field-0-is at c.in-Some-UndoText.ensures in
    read_kinds c.args.dialect c.args.line.now UndoText _ _ _ _ _ read (kept-UnlessRefused c.undo_text.result _ _ refl)

pub returns-in-Some-RedoText-clause-step : goal.returns-in-Some-RedoText-clause-step
returns-in-Some-RedoText-clause-step g c =
    let read : line_of c.args.line.now ≡ Ok RedoText = rw c.in-Some-RedoText.field-0-is at c.in-Some-RedoText.ensures in
    read_step c.args.dialect c.args.line.now RedoText _ _ _ read (c.redo_text.ensures, refl)

pub returns-in-Some-RedoText-clause-kinds : goal.returns-in-Some-RedoText-clause-kinds
returns-in-Some-RedoText-clause-kinds g c =
    let read : line_of c.args.line.now ≡ Ok RedoText = rw c.in-Some-RedoText.field-0-is at c.in-Some-RedoText.ensures in
    read_kinds c.args.dialect c.args.line.now RedoText _ _ _ _ _ read (kept-UnlessRefused c.redo_text.result _ _ refl)
