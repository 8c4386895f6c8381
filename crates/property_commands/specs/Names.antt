-- What the commands of properties and tilesets are called.
use Rattle.std.specs.Prelude.{ℕ, List, Bool, Some, codes}
use Rattle.map_model.specs.declared.owner.Owner.{Owner}
use Rattle.command_api.specs.declared.ids.TheConstants.{SET_ID}
use Rattle.command_api.specs.Names.{Names, untagged, Never, WhenEqual}
use Rattle.command_api.specs.Tag.{OfName}

abbrev pub set_property_names : Owner → List ℕ → Bool → Names
set_property_names owner name follows = record {
  text = codes "Set Property";
  action = codes "set property";
  tag = Some (record { kind = SET_ID; subject = OfName owner name });
  vanishing = WhenEqual;
  follows = follows;
}

-- a property is set whole
abbrev pub put_property_names : Names
put_property_names = untagged (codes "Set Property") (codes "set property") WhenEqual

abbrev pub remove_property_names : Names
remove_property_names = untagged (codes "Remove Property") (codes "remove property") Never

abbrev pub add_tileset_names : Names
add_tileset_names = untagged (codes "Add Tileset") (codes "add tileset") Never

abbrev pub number_tileset_names : Names
number_tileset_names = untagged (codes "Renumber Tileset") (codes "renumber tileset") Never

abbrev pub remove_tileset_names : Names
remove_tileset_names = untagged (codes "Remove Tileset") (codes "remove tileset") Never
