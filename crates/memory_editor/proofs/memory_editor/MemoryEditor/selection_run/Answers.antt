use Rattle.std.proofs.Common.{sym, ◌∙◌, ap}
use Rattle.memory_editor.proofs.Numbered.{at_number}
use Rattle.memory_editor.proofs.memory_editor.MemoryEditor.selection_run.Goals as goal

pub returns-in-Some : goal.returns-in-Some
returns-in-Some c =
    rw (sym c.in-Some.ensures.active) (
      c.rows.result,
      (c.rows.ensures.maximal, c.rows.ensures.cells ∙ c.selection.ensures.selection ∙ ap (λ d. d.selection) c.document.ensures),
      at_number c.rows.result c.args.at c.nth.result c.nth.new.self c.nth.ensures.ran,
    )
