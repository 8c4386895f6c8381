-- The sizes of a map, and how many layers and tilesets it has.
use Rattle.std.specs.Prelude.{length}
use Rattle.map_model.specs.declared.parts.MapParts.{MapParts}
use Rattle.map_model.specs.Groups.{all_drawn}
use Rattle.map_lists.specs.declared.sizes.Sizes.{Sizes}

abbrev pub sizes_of : MapParts → Sizes
sizes_of m = record {
  width = m.width;
  height = m.height;
  tile_width = m.tile_width;
  tile_height = m.tile_height;
  next_layer_id = m.next_layer_id;
  next_object_id = m.next_object_id;
  layers = length (all_drawn m.layers);
  tilesets = length m.tilesets;
}
