use Rattle.std.proofs.Common.{◌≡◌, sym, ◌∙◌, rules}
use Rattle.std.specs.Option.{option_map}
use Rattle.map_model.specs.Groups.{all_drawn}
use Rattle.map_model.specs.Lists.{first_some}
use Rattle.map_model.specs.Objects.{found_in_layer}
use Rattle.map_model.proofs.ObjectPlaces.{object_place-found, shown_place, shown_object}
use Rattle.map_model.proofs.map.Map.object.Goals as goal

pub returns-in-None-clause-place : goal.returns-in-None-clause-place
returns-in-None-clause-place c =
    let m = c.args.self.now in
    let is : option_map (λ found. (found.0, found.1.now)) c.find_in_layers.result ≡ first_some (found_in_layer c.args.id) (all_drawn m.layers) = search rules in
    shown_place c.find_in_layers.result (first_some (found_in_layer c.args.id) (all_drawn m.layers)) is
    ∙ sym (object_place-found c.args.id (all_drawn m.layers))

pub returns-in-None-clause-object : goal.returns-in-None-clause-object
returns-in-None-clause-object c = shown_object c.args.self.now c.args.id c.find_in_layers.result (search rules) (search rules)
