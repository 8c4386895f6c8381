use Rattle.std.proofs.Common.{ap, ◌∙◌, ◌≡◌, IsSome}
use Rattle.map_model.specs.declared.document.Document.TheInside.{Inside}
use Rattle.map_model.specs.Document.{DocumentParts}
use Rattle.map_model.specs.Objects.{object_at}
use Rattle.map_model.proofs.ObjectKeeps.{without_object_at-keeps}
use Rattle.map_model.proofs.Selections.{selection-IsSelectionOf}
use Rattle.map_model.proofs.document.Document.take_object.Goals as goal

pub invariant_of-self-inside : goal.invariant_of-self-inside
invariant_of-self-inside c =
    let m = c.self-inside.inside.0.0.parts in
    let is : m ≡ c.args.self.now.map = ap (λ (i : Inside). i.map) c.self-inside.view_is ∙ ap (λ (d : DocumentParts). d.map) c.self.view_is in
    let there : IsSome (object_at m c.args.place) = rw is c.requires in
    rw c.take_object_in.ensures.layers (without_object_at-keeps c.args.place m there c.self-inside.invariant)

pub invariant_of-self : goal.invariant_of-self
invariant_of-self c = record { map = invariant_of-self-inside c; selection = selection-IsSelectionOf c.self-inside.view_is c.self.invariant }

pub returns-clause-well_formed : goal.returns-clause-well_formed
returns-clause-well_formed c = invariant_of-self c
