use Rattle.std.proofs.Common.{ℕ, ap, ◌∙◌}
use Rattle.std.specs.List.{list_any}
use Rattle.map_model.specs.declared.parts.MapParts.{MapParts}
use Rattle.map_model.specs.Groups.{all_drawn}
use Rattle.map_model.specs.Renumbering.{has_losses, loses_tileset}
use Rattle.map_model.specs.Tilesets.{values_of}
use Rattle.map_model.specs.Uses.{is_between}
use Rattle.map_model.proofs.TilesetChanges.{list_any-same}
use Rattle.map_model.proofs.map.Map.has_losses.Goals as goal

pub returns : goal.returns
returns c =
    let ends = c.end_of_tileset-end.ensures in
    let same = λ (value : ℕ). c.losses-low.ensures value ∙ ap (λ e. loses_tileset c.args.first_id e c.args.to value) ends in
    c.is_in_layers.ensures
    ∙ (list_any-same (λ d. list_any (is_between c.losses-low.result.0 c.losses-low.result.1) (values_of d)) _
    (λ d. list_any-same (is_between c.losses-low.result.0 c.losses-low.result.1) _ same (values_of d)) (all_drawn c.self.inside.parts.layers)
    ∙ ap (λ (m : MapParts). has_losses m c.args.first_id c.args.to) c.self.view_is)
