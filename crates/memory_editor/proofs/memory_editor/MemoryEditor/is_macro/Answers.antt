use Rattle.std.proofs.Common.{◌∙◌, List, Bool, ap, sym}
use Rattle.std.specs.Prelude.{slice_get}
use Rattle.document_lines.specs.Planning.{edit_change}
use Rattle.memory_editor.proofs.Counting.{as_many}
use Rattle.memory_editor.proofs.memory_editor.MemoryEditor.is_macro.Goals as goal

pub returns-in-Some-clause-there : goal.returns-in-Some-clause-there
returns-in-Some-clause-there c = rw (sym c.in-Some.ensures.active, c.is_macro.ensures) (as_many edit_change c.in-Some.stack.now c.args.at)

pub returns-in-Some-clause-told : goal.returns-in-Some-clause-told
returns-in-Some-clause-told c = c.is_macro.ensures ∙ ap (λ (ks : List Bool). slice_get ks c.args.at) c.in-Some.ensures.kinds

pub returns-in-None-clause-told : goal.returns-in-None-clause-told
returns-in-None-clause-told c = ap (λ (ks : List Bool). slice_get ks c.args.at) (sym c.in-None.ensures.kinds)
