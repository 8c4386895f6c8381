-- What the commands of own members are called.
use Rattle.std.specs.Prelude.{ℕ, List, Bool, Some, None, codes}
use Rattle.map_model.specs.declared.owner.MemberOwner.{MemberOwner}
use Rattle.command_api.specs.Names.{Names, untagged, WhenEqual}
use Rattle.command_api.specs.Tag.{member_tag}

-- the own member of an owner that has this name is set
abbrev pub set_member_names : MemberOwner → List ℕ → Bool → Names
set_member_names owner name follows = record {
  text = codes "Set Member";
  action = codes "set member";
  tag = Some (member_tag owner (Some name));
  vanishing = WhenEqual;
  follows = follows;
}

-- several of them are, at once
abbrev pub put_members_names : MemberOwner → Bool → Names
put_members_names owner follows = record {
  text = codes "Set Members";
  action = codes "set members";
  tag = Some (member_tag owner None);
  vanishing = WhenEqual;
  follows = follows;
}

abbrev pub remove_member_names : Names
remove_member_names = untagged (codes "Remove Member") (codes "remove member") WhenEqual
