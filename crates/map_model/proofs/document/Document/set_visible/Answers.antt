use Rattle.map_model.specs.Layers.{layer_with_visible}
use Rattle.map_model.proofs.Keeps.{with_layer-keeps, layer_with_visible-keeps}
use Rattle.map_model.proofs.Selections.{selection-IsSelectionOf}
use Rattle.map_model.proofs.document.Document.set_visible.Goals as goal

pub invariant_of-self-inside : goal.invariant_of-self-inside
invariant_of-self-inside c =
    with_layer-keeps c.args.layer (layer_with_visible c.args.visible) c.self-inside.inside.0.0.parts c.show_in.new.layers c.show_in.ensures.layers
    (layer_with_visible-keeps c.args.visible) c.self-inside.invariant

pub invariant_of-self : goal.invariant_of-self
invariant_of-self c = record { map = invariant_of-self-inside c; selection = selection-IsSelectionOf c.self-inside.view_is c.self.invariant }

pub returns-clause-well_formed : goal.returns-clause-well_formed
returns-clause-well_formed c = invariant_of-self c
