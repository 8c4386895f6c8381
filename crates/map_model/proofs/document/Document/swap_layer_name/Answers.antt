use Rattle.map_model.specs.Layers.{layer_with_name}
use Rattle.map_model.proofs.Keeps.{with_layer-keeps, layer_with_name-keeps}
use Rattle.map_model.proofs.Selections.{selection-IsSelectionOf}
use Rattle.map_model.proofs.document.Document.swap_layer_name.Goals as goal

pub invariant_of-self-inside : goal.invariant_of-self-inside
invariant_of-self-inside c =
    with_layer-keeps c.args.layer (layer_with_name c.args.name.now) c.self-inside.inside.0.0.parts c.rename_in.new.layers c.rename_in.ensures.held
    (layer_with_name-keeps c.args.name.now c.text_is_utf8.ensures) c.self-inside.invariant

pub invariant_of-self : goal.invariant_of-self
invariant_of-self c = record { map = invariant_of-self-inside c; selection = selection-IsSelectionOf c.self-inside.view_is c.self.invariant }

pub returns-clause-well_formed : goal.returns-clause-well_formed
returns-clause-well_formed c = invariant_of-self c
