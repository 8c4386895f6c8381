-- A map as its source has it, in what the editor's format sets or leaves out: its version, empty compressions, and how layers are written.
use Rattle.std.specs.Prelude.{ℕ, zero, suc, ◌&&◌, [], codes, nat_le, Bool, if◌then◌else◌, Option, Some, None, option_and_then, is_none}
use Rattle.serde_json.specs.Data.{Data, string, Members, put}
use Rattle.serde_json.specs.Find.{get, get_member, as_object}
use Rattle.json_members.specs.Members.{without, put_some}
use Rattle.tiled_maps.specs.Sources.{layer_like, or_else, has_text, object_with, array_with, member_with, tiers}
use Rattle.tiled_maps.specs.Formats.{first_tiles, tile_cells, written_as}

-- whether a layer of the source has an empty compression, and this one none, though its data are base64
abbrev pub lacks_compression : Members → Members → Bool
lacks_compression olds ms =
    has_text (codes "compression") [] olds && has_text (codes "encoding") (codes "base64") ms && is_none (get_member (codes "compression") ms)

abbrev pub compression_by : Option Members → Members → Members
compression_by None ms = ms
compression_by (Some olds) ms = if lacks_compression olds ms then put (codes "compression") (string []) ms else ms

-- The members of a map, a group or a layer of which the source has these: with its empty compression, and written as it is there. A
-- layer that the source does not have is written as the first one. So are the layers in it.
unfoldable pub layers_like : ℕ → Option Members → Option Members → Members → Members
layers_like zero first olds ms = ms
layers_like (suc n) first olds ms = written_as (or_else olds first)
    (compression_by olds (member_with (codes "layers") (array_with (object_with (λ own. layers_like n first (layer_like olds own) own))) ms))

-- a layer in a map or a group of which the source has these members
abbrev pub layer_as : ℕ → Option Members → Option Members → Data → Data
layer_as n first olds d = object_with (λ own. layers_like n first (layer_like olds own) own) d

-- ---- the map
-- The most cells of a map's tile layers with which new ones become base64. So many take two thirds of the longest text that is opened.
abbrev pub most_encoded : ℕ
most_encoded = 8388608

abbrev pub is_small : Data → Bool
is_small d = nat_le (tile_cells d) most_encoded

-- the tile layer of the source as which new ones are written, the first, if they are
abbrev pub first_if : Bool → Data → Option Members
first_if small source = if small then option_and_then (first_tiles tiers) (as_object source) else None

-- The version is the one that the source has; none, if it has none.
abbrev pub with_version : Data → Members → Members
with_version source ms = put_some (codes "version") (get (codes "version") source) (without (codes "version") ms)

abbrev pub members_like : Bool → Data → Members → Members
members_like small source ms = with_version source (layers_like tiers (first_if small source) (as_object source) ms)

-- The map as its source has it: with its version, its empty compressions, and its layers written as they are there, new ones as the first
-- tile layer is. Without a source it stays as it is.
abbrev pub as_in : Option Data → Data → Data
as_in None d = d
as_in (Some source) d = object_with (members_like (is_small d) source) d
