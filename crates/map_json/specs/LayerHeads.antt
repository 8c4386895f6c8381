-- What the members of a layer's head say, and what is written of it: all of a layer but its id, its properties and what it holds.
use Rattle.std.specs.Prelude.{IsUtf8, ℕ, List, [], ◌∷◌, Bool, true, not, Result, Ok}
use Rattle.std.specs.List.{list_any}
use Rattle.std.specs.Str.{bytes_eq}
use Rattle.serde_json.specs.Data.{Members}
use Rattle.json_trees.specs.declared.names.TheConstants.{RESERVED_NAME}
use Rattle.map_model.specs.declared.heads.LayerHead.{LayerHead}
use Rattle.map_model.specs.declared.names.TheConstants.{ID, TYPE, PROPERTIES, DATA, CHUNKS, START_X, START_Y, OBJECTS, LAYERS, WIDTH, HEIGHT, ENCODING, COMPRESSION}
use Rattle.map_model.specs.declared.parts.Body.{Body}
use Rattle.map_model.specs.Format.{name_member, visible_member, layer_names}
use Rattle.map_model.specs.Keeping.{AreKept}
use Rattle.map_model.specs.Refusing.{◌>>=◌}
use Rattle.refusals.specs.declared.map_refusal.MapRefusal.{MapRefusal}
use Rattle.json_members.specs.Members.{without_all}
use Rattle.map_values.specs.Scalars.{member_or, own_value}
use Rattle.map_json.specs.Members.{Own, with_own}

-- the names of the members that layers of any kind have, and other lines change
abbrev pub fixed_layer_names : List (List ℕ)
fixed_layer_names =
    ID.now ∷ TYPE.now ∷ PROPERTIES.now ∷ DATA.now ∷ CHUNKS.now ∷ START_X.now ∷ START_Y.now ∷ OBJECTS.now ∷ LAYERS.now ∷ WIDTH.now ∷ HEIGHT.now
    ∷ ENCODING.now ∷ COMPRESSION.now ∷ RESERVED_NAME.now ∷ []

-- a layer's own members are all others
abbrev pub is_layer_member : List ℕ → Bool
is_layer_member name = not (list_any (bytes_eq name) fixed_layer_names)

-- the names of a head's own members
abbrev pub layer_head_names : List (List ℕ)
layer_head_names = name_member.name ∷ visible_member.name ∷ []

-- the head that members say
unfoldable pub layer_head_at : Members → Result LayerHead MapRefusal
layer_head_at ms = do
  name ← member_or name_member [] ms
  visible ← member_or visible_member true ms
  Ok (record { name = name; visible = visible; kept = without_all layer_head_names ms })

-- the members that are written of a head
abbrev pub layer_head_own : LayerHead → Own
layer_head_own h = own_value name_member h.name ∷ own_value visible_member h.visible ∷ []

abbrev pub layer_head_members : LayerHead → Members
layer_head_members h = with_own (layer_head_own h) h.kept

-- the head of a layer at this tier, which holds this
pub record IsLayerHead (tier : ℕ) (body : Body) (h : LayerHead) : Type 0 where
  pub name : IsUtf8 h.name
  pub kept : AreKept tier (layer_names body) h.kept
