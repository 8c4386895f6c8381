use Rattle.std.proofs.Common.{refl}
use Rattle.editor.proofs.KindLists.{kept-UnlessRefused}
use Rattle.editor.proofs.editor.Editor.on_documents.Goals as goal

pub returns-in-Open-clause-step : goal.returns-in-Open-clause-step
returns-in-Open-clause-step g c = rw c.in-Open.is c.open_file.ensures.step

pub returns-in-New-clause-kinds : goal.returns-in-New-clause-kinds
returns-in-New-clause-kinds g c = rw c.in-New.is c.open_new.ensures.kinds

pub returns-in-Open-clause-kinds : goal.returns-in-Open-clause-kinds
returns-in-Open-clause-kinds g c = rw c.in-Open.is c.open_file.ensures.kinds

pub returns-in-Close-clause-kinds : goal.returns-in-Close-clause-kinds
returns-in-Close-clause-kinds g c = rw c.in-Close.is c.close.ensures.kinds

pub returns-in-Discard-clause-kinds : goal.returns-in-Discard-clause-kinds
returns-in-Discard-clause-kinds g c = rw c.in-Discard.is c.discard.ensures.kinds

pub returns-in-Save-clause-kinds : goal.returns-in-Save-clause-kinds
returns-in-Save-clause-kinds g c = rw c.in-Save.is (kept-UnlessRefused c.save.result _ _ c.save.ensures.kinds)

pub returns-in-Use-clause-kinds : goal.returns-in-Use-clause-kinds
returns-in-Use-clause-kinds g c = rw c.in-Use.is (kept-UnlessRefused c.choose.result _ _ c.choose.ensures.kinds)

pub returns-in-Documents-clause-kinds : goal.returns-in-Documents-clause-kinds
returns-in-Documents-clause-kinds g c = rw c.in-Documents.is (kept-UnlessRefused c.list.result _ _ refl)

pub returns-in-Status-clause-kinds : goal.returns-in-Status-clause-kinds
returns-in-Status-clause-kinds g c = rw c.in-Status.is (kept-UnlessRefused c.status.result _ _ refl)

pub returns-in-UndoText-clause-kinds : goal.returns-in-UndoText-clause-kinds
returns-in-UndoText-clause-kinds g c = rw c.in-UndoText.is (kept-UnlessRefused c.undo_text.result _ _ refl)

pub returns-in-RedoText-clause-kinds : goal.returns-in-RedoText-clause-kinds
returns-in-RedoText-clause-kinds g c = rw c.in-RedoText.is (kept-UnlessRefused c.redo_text.result _ _ refl)
