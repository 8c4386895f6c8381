use Rattle.std.proofs.Common.{◌≡◌, IsSome, ap, ◌∙◌}
use Rattle.std.specs.List.{remove}
use Rattle.map_model.specs.declared.document.Document.TheInside.{Inside}
use Rattle.map_model.specs.Document.{DocumentParts}
use Rattle.map_model.specs.Layers.{layer_at}
use Rattle.map_model.proofs.Keeps.{remove-keeps, with_siblings-IsSelectionOf}
use Rattle.map_model.proofs.Selections.{selection-IsSelectionOf}
use Rattle.map_model.proofs.document.Document.take_layer.Goals as goal

pub invariant_of-self-inside : goal.invariant_of-self-inside
invariant_of-self-inside c =
    let m = c.self-inside.inside.0.0.parts in
    let is : m ≡ c.args.self.now.map = ap (λ (i : Inside). i.map) c.self-inside.view_is ∙ ap (λ (d : DocumentParts). d.map) c.self.view_is in
    let there : IsSome (layer_at m c.args.place) = rw is c.requires in
    rw c.take_layer_in.ensures.parts (remove-keeps m c.args.place there c.self-inside.invariant)

pub invariant_of-self : goal.invariant_of-self
invariant_of-self c = record {
  map = invariant_of-self-inside c;
  selection = rw c.take_layer_in.ensures.parts
      (with_siblings-IsSelectionOf c.args.place.parent (λ ls. remove ls c.args.place.at) c.self-inside.inside.0.0.parts c.self-inside.inside.0.1.0
      (selection-IsSelectionOf c.self-inside.view_is c.self.invariant));
}

pub returns-clause-well_formed : goal.returns-clause-well_formed
returns-clause-well_formed c = invariant_of-self c

pub take_layer_in-requires-clause-there : goal.take_layer_in-requires-clause-there
take_layer_in-requires-clause-there c =
    let is = ap (λ (i : Inside). i.map) c.self-inside.view_is ∙ ap (λ (d : DocumentParts). d.map) c.self.view_is in
    rw is c.requires

pub returns-clause-layer : goal.returns-clause-layer
returns-clause-layer c =
    let is = ap (λ (i : Inside). i.map) c.self-inside.view_is ∙ ap (λ (d : DocumentParts). d.map) c.self.view_is in
    rw (← is) c.take_layer_in.ensures.layer
