-- For private clauses: what is written of a layer and of a map, whole or as an outline.
use Rattle.std.specs.Prelude.{ℕ, List, [], ◌∷◌, Option, Some, None}
use Rattle.serde_json.specs.Data.{Data, array, Members, no_items}
use Rattle.map_model.specs.declared.names.TheConstants.{WIDTH, HEIGHT, ENCODING, COMPRESSION}
use Rattle.map_model.specs.declared.parts.Body.{Body}
use Rattle.map_model.specs.declared.parts.Body.TheVariants.{Tiles}
use Rattle.map_model.specs.declared.parts.Encoding.{Encoding}
use Rattle.map_model.specs.declared.parts.Encoding.TheVariants.{Array}
use Rattle.map_model.specs.declared.parts.Layer.{Layer}
use Rattle.map_model.specs.declared.parts.MapParts.{MapParts}
use Rattle.map_json.specs.declared.detail.Detail.{Detail}
use Rattle.map_json.specs.declared.detail.Detail.TheVariants.{Whole, Outline}
use Rattle.map_json.specs.Appending.{layer_frame}
use Rattle.map_json.specs.Members.{Own, with_own}
use Rattle.map_json.specs.Outlines.{outline_layer, outline_of, outline_own}
use Rattle.map_values.specs.Arrays.{array_by, whole_tree}
use Rattle.map_json.specs.Trees.{encoding_member, layer_tree, tree_of}

-- the own members of a tile layer's kind, but its values
abbrev pub shape_own : ℕ → ℕ → Encoding → Own
shape_own width height e =
    (ENCODING.now, encoding_member e) ∷ (COMPRESSION.now, None) ∷ (WIDTH.now, Some (whole_tree width)) ∷ (HEIGHT.now, Some (whole_tree height)) ∷ []

-- the members of a layer in an outline, with an empty array for the layers of a group
abbrev pub outline_frame : ℕ → ℕ → Layer → Members
outline_frame width height l = with_own (outline_own width height (array no_items) l) l.kept

-- the numbers that a layer's values are; none, where they are in base64 or it has no values
abbrev pub numbers_of : Body → Option (List ℕ)
numbers_of (Tiles Array cells) = Some cells
numbers_of b = None

-- ---- in either detail
-- the numbers that are written
abbrev pub numbers_in : Detail → Body → Option (List ℕ)
numbers_in Whole b = numbers_of b
numbers_in Outline b = None

abbrev pub frame_in : Detail → ℕ → ℕ → Layer → Members
frame_in Whole width height l = layer_frame width height l
frame_in Outline width height l = outline_frame width height l

abbrev pub layer_in : Detail → ℕ → ℕ → ℕ → Layer → Data
layer_in Whole groups width height l = layer_tree groups width height l
layer_in Outline groups width height l = outline_layer groups width height l

abbrev pub layers_in : Detail → ℕ → ℕ → ℕ → List Layer → Data
layers_in detail groups width height ls = array_by (layer_in detail groups width height) ls

abbrev pub map_in : Detail → MapParts → Data
map_in Whole m = tree_of m
map_in Outline m = outline_of m
