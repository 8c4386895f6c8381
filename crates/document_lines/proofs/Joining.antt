-- What two differences in turn come to.
use Rattle.std.proofs.Common.{◌≡◌, false, ◌∙◌}
use Rattle.map_model.specs.Document.{DocumentParts}
use Rattle.document_lines.specs.declared.differences.Differences.{Differences}
use Rattle.document_lines.specs.Differing.{AreWithin, DifferWithin}

-- what is not told of both is not told of either
pub joined-within : (one other joined : Differences) → (joined.outline ≡ false → (one.outline ≡ false) × (other.outline ≡ false))
    → (joined.selection ≡ false → (one.selection ≡ false) × (other.selection ≡ false)) → AreWithin one.cells joined.cells → AreWithin other.cells joined.cells
    → (d e f : DocumentParts) → DifferWithin one d e → DifferWithin other e f → DifferWithin joined d f
joined-within one other joined outline selection left right d e f h k = record {
  outline = λ not. k.outline (outline not).1 ∙ h.outline (outline not).0;
  selection = λ not. k.selection (selection not).1 ∙ h.selection (selection not).0;
  layers = λ some.
      let before = h.layers (λ all. some (left.all all)) in
      let after = k.layers (λ all. some (right.all all)) in
      record { width = after.width ∙ before.width; height = after.height ∙ before.height; ids = after.ids ∙ before.ids };
  cells = λ id x y not. k.cells id x y (λ is. not (right.one id x y is)) ∙ h.cells id x y (λ is. not (left.one id x y is));
}
