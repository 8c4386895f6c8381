-- For private clauses: a text that grows by one value after another, and what stays true of it.
use Rattle.std.specs.Prelude.{◌≡◌, ℕ, ◌+◌, ◌*◌, ◌≤◌, List, [], if◌then◌else◌}
use Rattle.std.specs.Str.{bytes_eq}
use Rattle.serde_json.specs.Data.{Data, array, Members, no_members, member, no_items}
use Rattle.map_model.specs.declared.parts.Body.{Body}
use Rattle.map_model.specs.declared.parts.Body.TheVariants.{Tiles}
use Rattle.map_model.specs.declared.parts.Encoding.{Encoding}
use Rattle.map_model.specs.declared.parts.Encoding.TheVariants.{Array, Base64}
use Rattle.map_model.specs.declared.parts.MapParts.{MapParts}
use Rattle.map_model.specs.declared.parts.Layer.{Layer}
use Rattle.map_model.specs.Groups.{drawn}
use Rattle.map_model.specs.Keeping.{deepest_tier, layer_tier}
use Rattle.map_model.specs.Lists.{Each}
use Rattle.map_model.specs.WellFormed.{IsDrawn}
use Rattle.map_json.specs.Members.{with_own}
use Rattle.map_json.specs.Trees.{layer_own, own_around}

-- the value, and this one in place of that with the name
abbrev pub instead : List ℕ → Data → List ℕ → Data → Data
instead k d l e = if bytes_eq l k then d else e

-- the members, with this value wherever the name is k
abbrev pub replaced : List ℕ → Data → Members → Members
replaced k d no_members = no_members
replaced k d (member l e ms) = member l (instead k d l e) (replaced k d ms)

-- layers as a map of so many cells has them, where so many groups may still stand in one another
pub record AreWritten (groups size : ℕ) (ls : List Layer) : Type 0 where
  pub tier : ℕ
  pub high : layer_tier ≤ tier
  pub balance : tier + 2 * groups ≡ deepest_tier
  pub each : Each (IsDrawn size) (drawn groups tier ls)

-- a tile layer's values as they stand in its frame: of an array none
abbrev pub framed_cells : Encoding → List ℕ → List ℕ
framed_cells Array cells = []
framed_cells Base64 cells = cells

-- what a layer holds, as it stands in its frame
abbrev pub framed_body : Body → Body
framed_body (Tiles e cells) = Tiles e (framed_cells e cells)
framed_body b = b

-- the members of a layer, with an empty array for numbers and for the layers of a group
abbrev pub layer_frame : ℕ → ℕ → Layer → Members
layer_frame width height l = with_own (layer_own width height (array no_items) (record l { body = framed_body l.body })) l.kept

-- the members of a map, with an empty array for its layers
abbrev pub frame_of : MapParts → Members
frame_of m = with_own (own_around (array no_items) m) m.kept
