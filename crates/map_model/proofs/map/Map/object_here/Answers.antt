use Rattle.std.proofs.Common.{◌≡◌, ap, sym, ◌∙◌, Some, rules}
use Rattle.map_model.specs.Keeping.{layer_tier}
use Rattle.map_model.specs.Lookups.{layer_of}
use Rattle.map_model.specs.Objects.{objects_of, object_at, object_place, place_of_layer}
use Rattle.map_model.proofs.ObjectPlaces.{object_place-only}
use Rattle.map_model.proofs.map.Map.object_here.Goals as goal

found : (c : goal.Then-object-id) → let l = c.in_ok-layer.layer.now in let o = c.in_ok-at.object.now in
    (object_place c.args.self.now o.id ≡ Some (place_of_layer l c.in_ok-at.at)) × (object_at c.args.self.now (place_of_layer l c.in_ok-at.at) ≡ Some o)
found c =
    let l = c.in_ok-layer.layer.now in
    let drawn : layer_of c.args.self.now l.id ≡ Some l = rw c.self.view_is at (c.in_ok-layer.ensures layer_tier c.self.invariant.layers.layer_ids.distinct) in
    let objects : objects_of l ≡ Some c.in_ok-objects.field-0.now = search rules in
    object_place-only c.args.self.now l c.in_ok-objects.field-0.now c.in_ok-at.at c.in_ok-at.object.now drawn objects c.in_ok-at.ensures (search rules)

pub returns-then-object-id-clause-place : goal.returns-then-object-id-clause-place
returns-then-object-id-clause-place c = ap (object_place c.args.self.now) (sym c.if-object-id.true) ∙ (found c).0

pub returns-then-object-id-clause-object : goal.returns-then-object-id-clause-object
returns-then-object-id-clause-object c = (found c).1
