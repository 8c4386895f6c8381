-- What a command of own members is and does.
use Rattle.std.specs.Prelude.{◌≡◌, ℕ, List, Bool, true, Option, Some, None, IsSome}
use Rattle.serde_json.specs.Data.{Data}
use Rattle.map_model.specs.declared.owner.MemberOwner.{MemberOwner}
use Rattle.map_model.specs.declared.owner.MemberOwner.TheVariants as owners
use Rattle.map_model.specs.declared.heads.TilesetHead.{TilesetHead}
use Rattle.map_model.specs.Document.{DocumentParts}
use Rattle.map_model.specs.Heads.{tileset_head_with_id, tileset_value}
use Rattle.map_model.specs.Lens.{put}
use Rattle.command_api.specs.Exchange.{Exchange, change_of}
use Rattle.command_api.specs.Heads.{TilesetsValue}
use Rattle.command_api.specs.Law.{Change}
use Rattle.command_api.specs.Names.{Names}
use Rattle.command_api.specs.Offers.{Shown, Nothing, Member}
use Rattle.command_api.specs.Swap.{swap_held}
use Rattle.member_commands.specs.declared.set_head.MemberEdit.{MemberEdit}
use Rattle.member_commands.specs.declared.set_head.MemberEdit.TheVariants.{Set, Put, Remove}
use Rattle.member_commands.specs.declared.set_head.SetHead.{SetHead}
use Rattle.member_commands.specs.declared.set_value.SetTileset.{SetTileset}
use Rattle.member_commands.specs.declared.set_value.SetTileset.TheVariants as settings
use Rattle.member_commands.specs.declared.set_value.SetValue.{SetValue}
use Rattle.member_commands.specs.Heads.{HeadParts}
use Rattle.member_commands.specs.Names.{set_member_names, put_members_names, remove_member_names}
use Rattle.member_commands.specs.Tilesets.{tileset_heads}

-- what an edit of own members is called; one that takes a member out follows nothing
abbrev pub member_names : MemberEdit → MemberOwner → Bool → Names
member_names (Set name) owner follows = set_member_names owner name follows
member_names Put owner follows = put_members_names owner follows
member_names Remove owner follows = remove_member_names

-- the owner's head and the one that is held change places
abbrev pub set_head_exchange : {H : Type 0} → HeadParts H → SetHead H → Exchange
set_head_exchange p c = swap_held (member_names c.edit (p.owner c.id) c.follows) (p.lens c.id) c.is_same c.is_made c.head

abbrev pub set_head_change : {H : Type 0} → HeadParts H → SetHead H → Change
set_head_change p c = change_of (set_head_exchange p c)

-- what is shown where the command follows: the name, where one member is set, and the head that is held
abbrev pub member_shown : {H : Type 0} → HeadParts H → Option (List ℕ) → Bool → ℕ → Option H → Shown
member_shown p name true id (Some held) = Member name (p.shown id held)
member_shown p name follows id held = Nothing

abbrev pub edit_shown : {H : Type 0} → HeadParts H → MemberEdit → Bool → ℕ → Option H → Shown
edit_shown p (Set name) follows id held = member_shown p (Some name) follows id held
edit_shown p Put follows id held = member_shown p None follows id held
edit_shown p Remove follows id held = Nothing

abbrev pub set_head_shown : {H : Type 0} → HeadParts H → SetHead H → Shown
set_head_shown p c = edit_shown p c.edit c.follows c.id c.head

-- ---- a tileset's own member
-- its value and the one that is held change places
abbrev pub set_value_exchange : SetValue → Exchange
set_value_exchange c =
    swap_held (set_member_names (owners.Tileset c.first_id) c.name c.follows) (tileset_value c.first_id c.name) c.is_same c.is_made c.value

abbrev pub set_value_change : SetValue → Change
set_value_change c = change_of (set_value_exchange c)

-- what is shown where the command follows: the name, and the value that is held
abbrev pub value_shown : List ℕ → Bool → ℕ → Option Data → Shown
value_shown name true first_id (Some held) = Member (Some name) (TilesetsValue first_id held)
value_shown name follows first_id held = Nothing

abbrev pub set_value_shown : SetValue → Shown
set_value_shown c = value_shown c.name c.follows c.first_id c.value

-- it is set by its value, or by the tileset's head
abbrev pub set_tileset_change : SetTileset → Change
set_tileset_change (settings.Value c) = set_value_change c
set_tileset_change (settings.Head c) = set_head_change tileset_heads c

-- an edit of one member changes no more than the tileset's value there
abbrev pub IsByValue : MemberEdit → ℕ → Data → TilesetHead → DocumentParts → Type 0
IsByValue (Set name) first_id value head d =
    IsSome ((tileset_value first_id name).get d) × (put (tileset_value first_id name) value d ≡ put (tileset_head_with_id first_id) head d)
IsByValue edit first_id value head d = ⊥
