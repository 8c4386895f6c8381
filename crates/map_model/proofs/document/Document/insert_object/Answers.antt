use Rattle.std.proofs.Common.{ap, ◌∙◌, ◌≡◌}
use Rattle.map_model.specs.declared.document.Document.TheInside.{Inside}
use Rattle.map_model.specs.Document.{DocumentParts}
use Rattle.map_model.specs.Objects.{IsObjectPlaceIn}
use Rattle.map_model.proofs.ObjectKeeps.{objects_of_layer-few}
use Rattle.map_model.proofs.document.Document.insert_object.Goals as goal

pub insert_object_in-requires-clause-few : goal.insert_object_in-requires-clause-few
insert_object_in-requires-clause-few c =
    let m = c.self-inside.inside.0.0.parts in
    let is : m ≡ c.args.self.now.map = ap (λ (i : Inside). i.map) c.self-inside.view_is ∙ ap (λ (d : DocumentParts). d.map) c.self.view_is in
    let place : IsObjectPlaceIn m c.args.place = rw is c.requires.place in
    objects_of_layer-few m c.args.place.layer c.args.place.at place c.self-inside.invariant
