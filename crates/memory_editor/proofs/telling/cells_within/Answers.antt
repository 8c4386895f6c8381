use Rattle.memory_editor.proofs.telling.cells_within.Goals as goal

pub returns-in-Within : goal.returns-in-Within
returns-in-Within c = rw c.in-Within.is (record {
  one = λ id x y left below h. (h.0, c.area_within.ensures x y left below h.1);
  all = λ same. cc;
})
