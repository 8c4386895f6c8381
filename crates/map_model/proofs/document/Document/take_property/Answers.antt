use Rattle.std.proofs.Common.{ap, ◌∙◌, ◌≡◌, IsSome}
use Rattle.std.specs.List.{remove}
use Rattle.map_model.specs.declared.document.Document.TheInside.{Inside}
use Rattle.map_model.specs.Document.{DocumentParts}
use Rattle.map_model.specs.Properties.{property_at}
use Rattle.map_model.proofs.PropertyKeeps.{without_property_at-keeps, with_properties-IsSelectionOf}
use Rattle.map_model.proofs.Selections.{selection-IsSelectionOf}
use Rattle.map_model.proofs.document.Document.take_property.Goals as goal

pub take_in-requires-clause-there : goal.take_in-requires-clause-there
take_in-requires-clause-there c =
    let is = ap (λ (i : Inside). i.map) c.self-inside.view_is ∙ ap (λ (d : DocumentParts). d.map) c.self.view_is in
    rw is c.requires

pub invariant_of-self-inside : goal.invariant_of-self-inside
invariant_of-self-inside c =
    let m = c.self-inside.inside.0.0.parts in
    let is : m ≡ c.args.self.now.map = ap (λ (i : Inside). i.map) c.self-inside.view_is ∙ ap (λ (d : DocumentParts). d.map) c.self.view_is in
    let there : IsSome (property_at m c.args.owner c.args.at) = rw is c.requires in
    rw c.take_in.ensures.parts (without_property_at-keeps c.args.owner c.args.at m there c.self-inside.invariant)

pub invariant_of-self : goal.invariant_of-self
invariant_of-self c = record {
  map = invariant_of-self-inside c;
  selection = rw c.take_in.ensures.parts
      (with_properties-IsSelectionOf c.args.owner (λ ps. remove ps c.args.at) c.self-inside.inside.0.0.parts c.self-inside.inside.0.1.0
      (selection-IsSelectionOf c.self-inside.view_is c.self.invariant));
}

pub returns-clause-property : goal.returns-clause-property
returns-clause-property c =
    let is = ap (λ (i : Inside). i.map) c.self-inside.view_is ∙ ap (λ (d : DocumentParts). d.map) c.self.view_is in
    rw (← is) c.take_in.ensures.property

pub returns-clause-well_formed : goal.returns-clause-well_formed
returns-clause-well_formed c = invariant_of-self c
