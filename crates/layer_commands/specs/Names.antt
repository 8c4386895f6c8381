-- What the commands of layers are called.
use Rattle.std.specs.Prelude.{codes}
use Rattle.command_api.specs.Names.{Names, untagged, Never, WhenEqual}

abbrev pub rename_names : Names
rename_names = untagged (codes "Rename Layer") (codes "rename layer") WhenEqual

abbrev pub show_names : Names
show_names = untagged (codes "Show Layer") (codes "show layer") WhenEqual

abbrev pub add_names : Names
add_names = untagged (codes "Add Layer") (codes "add layer") Never

abbrev pub remove_names : Names
remove_names = untagged (codes "Remove Layer") (codes "remove layer") Never

abbrev pub move_names : Names
move_names = untagged (codes "Move Layer") (codes "move layer") Never

abbrev pub resize_names : Names
resize_names = untagged (codes "Resize Map") (codes "resize map") Never
