-- What the commands of paints and of the selection are called.
use Rattle.std.specs.Prelude.{ℕ, Some, Bool, codes}
use Rattle.command_api.specs.Names.{Names, WhenEqual, untagged}
use Rattle.command_api.specs.Tag.{OfLayer}
use Rattle.command_api.specs.declared.ids.TheConstants.{STAMP_ID, ERASE_ID}

-- what a stamp on a layer is called
abbrev pub stamp_names : ℕ → Bool → Names
stamp_names layer follows = record {
  text = codes "Stamp";
  action = codes "stamp tiles";
  tag = Some (record { kind = STAMP_ID; subject = OfLayer layer });
  vanishing = WhenEqual;
  follows = follows;
}

-- what an erase on a layer is called
abbrev pub erase_names : ℕ → Bool → Names
erase_names layer follows = record {
  text = codes "Erase";
  action = codes "erase tiles";
  tag = Some (record { kind = ERASE_ID; subject = OfLayer layer });
  vanishing = WhenEqual;
  follows = follows;
}

-- what a fill is called
abbrev pub fill_names : Names
fill_names = untagged (codes "Fill") (codes "fill area") WhenEqual

abbrev pub select_names : Names
select_names = untagged (codes "Select") (codes "change selection") WhenEqual
