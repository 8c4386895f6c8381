-- What the commands of tilesets are and do.
use Rattle.std.specs.Prelude.{false, None}
use Rattle.map_model.specs.Document.{with_map}
use Rattle.map_model.specs.Renumbering.{MayBeRenumbered, map_renumbered}
use Rattle.map_model.specs.Slot.{tileset_slot}
use Rattle.map_model.specs.WellFormed.{IsWellFormed}
use Rattle.command_api.specs.Law.{Change}
use Rattle.command_api.specs.Exchange.{Exchange, change_of}
use Rattle.command_api.specs.Link.{link}
use Rattle.property_commands.specs.declared.number.NumberTileset.{NumberTileset}
use Rattle.property_commands.specs.declared.tilesets.AddTileset.{AddTileset}
use Rattle.property_commands.specs.declared.tilesets.RemoveTileset.{RemoveTileset}
use Rattle.property_commands.specs.Names.{add_tileset_names, number_tileset_names, remove_tileset_names}

abbrev pub add_tileset_exchange : AddTileset → Exchange
add_tileset_exchange c = link add_tileset_names (tileset_slot c.at) c.tileset

abbrev pub add_tileset_change : AddTileset → Change
add_tileset_change c = change_of (add_tileset_exchange c)

abbrev pub remove_tileset_exchange : RemoveTileset → Exchange
remove_tileset_exchange c = link remove_tileset_names (tileset_slot c.at) c.tileset

abbrev pub remove_tileset_change : RemoveTileset → Change
remove_tileset_change c = change_of (remove_tileset_exchange c)

-- the tileset gets the other first id, and its values go along
abbrev pub number_tileset_exchange : NumberTileset → Exchange
number_tileset_exchange c = record {
  names = number_tileset_names;
  obsolete = false;
  made = None;
  exchanged = with_map (map_renumbered c.from c.to);
  fits = λ d. MayBeRenumbered c.from c.to d.map × IsWellFormed d.map;
}

abbrev pub number_tileset_change : NumberTileset → Change
number_tileset_change c = change_of (number_tileset_exchange c)
