-- What the members of a tileset's head say, and what is written of it: all of a tileset but its first id.
use Rattle.std.specs.Prelude.{IsUtf8, List, [], ◌∷◌, Bool, not, ℕ, Result, Ok, IfSome}
use Rattle.std.specs.List.{list_any}
use Rattle.std.specs.Str.{bytes_eq}
use Rattle.serde_json.specs.Data.{Members}
use Rattle.json_trees.specs.declared.names.TheConstants.{RESERVED_NAME}
use Rattle.map_model.specs.declared.heads.TilesetHead.{TilesetHead}
use Rattle.map_model.specs.declared.names.TheConstants.{FIRST_ID}
use Rattle.map_model.specs.Format.{source_member, tileset_names}
use Rattle.map_model.specs.Keeping.{AreKept, tileset_tier}
use Rattle.map_model.specs.Refusing.{◌>>=◌}
use Rattle.refusals.specs.declared.map_refusal.MapRefusal.{MapRefusal}
use Rattle.json_members.specs.Members.{without_all}
use Rattle.map_values.specs.Scalars.{optional_member, own_some}
use Rattle.map_json.specs.Members.{Own, with_own}

-- the names of a tileset's members that other lines change
abbrev pub fixed_tileset_names : List (List ℕ)
fixed_tileset_names = FIRST_ID.now ∷ RESERVED_NAME.now ∷ []

-- a tileset's own members are all others
abbrev pub is_tileset_member : List ℕ → Bool
is_tileset_member name = not (list_any (bytes_eq name) fixed_tileset_names)

-- the head that members say
unfoldable pub tileset_head_at : Members → Result TilesetHead MapRefusal
tileset_head_at ms = do
  source ← optional_member source_member ms
  Ok (record { source = source; kept = without_all tileset_names ms })

-- the members that are written of a head
abbrev pub tileset_head_own : TilesetHead → Own
tileset_head_own h = own_some source_member h.source ∷ []

abbrev pub tileset_head_members : TilesetHead → Members
tileset_head_members h = with_own (tileset_head_own h) h.kept

-- the head of a tileset
pub record IsTilesetHead (h : TilesetHead) : Type 0 where
  pub source : IfSome h.source IsUtf8
  pub kept : AreKept tileset_tier tileset_names h.kept
