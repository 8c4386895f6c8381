-- What the commands of objects are called.
use Rattle.std.specs.Prelude.{ℕ, Bool, Some, codes}
use Rattle.command_api.specs.declared.ids.TheConstants.{MOVE_ID}
use Rattle.command_api.specs.Names.{Names, untagged, Never, WhenEqual}
use Rattle.command_api.specs.Tag.{OfObject}

abbrev pub add_object_names : Names
add_object_names = untagged (codes "Add Object") (codes "add object") Never

abbrev pub remove_object_names : Names
remove_object_names = untagged (codes "Remove Object") (codes "remove object") Never

-- what a move to another place of a layer is called
abbrev pub reparent_object_names : Names
reparent_object_names = untagged (codes "Move Object") (codes "move object") Never

-- what a move of the object with an id is called
abbrev pub move_object_names : ℕ → Bool → Names
move_object_names id follows = record {
  text = codes "Move Object";
  action = codes "move object";
  tag = Some (record { kind = MOVE_ID; subject = OfObject id });
  vanishing = WhenEqual;
  follows = follows;
}

abbrev pub resize_object_names : Names
resize_object_names = untagged (codes "Resize Object") (codes "resize object") WhenEqual
