-- What is written for the outline of a map: its tree without the values of its cells, and the text of that tree.
use Rattle.std.specs.Prelude.{ℕ, zero, suc, List, filter, not}
use Rattle.std.specs.Str.{bytes_eq}
use Rattle.serde_json.specs.Data.{Data, array, object, no_items}
use Rattle.serde_json.specs.Written.{compact_text}
use Rattle.map_model.specs.declared.names.TheConstants.{DATA}
use Rattle.map_model.specs.declared.limits.TheConstants.{MAX_GROUPS}
use Rattle.map_model.specs.declared.parts.Layer.{Layer}
use Rattle.map_model.specs.declared.parts.MapParts.{MapParts}
use Rattle.map_model.specs.Groups.{inside}
use Rattle.map_json.specs.Members.{Own, with_own}
use Rattle.map_values.specs.Arrays.{array_by}
use Rattle.map_json.specs.Trees.{layer_own, own_around}

-- a layer's own members but the values of its cells
abbrev pub outline_own : ℕ → ℕ → Data → Layer → Own
outline_own width height layers l = filter (λ p. not (bytes_eq p.0 DATA.now)) (layer_own width height layers l)

-- a layer in which layers may stand in so many groups
unfoldable pub outline_layer : ℕ → ℕ → ℕ → Layer → Data
outline_layer zero width height l = object (with_own (outline_own width height (array no_items) l) l.kept)
outline_layer (suc groups) width height l = object (with_own (outline_own width height (array_by (outline_layer groups width height) (inside l)) l) l.kept)

-- the tree of a map's outline, and its text
unfoldable pub outline_of : MapParts → Data
outline_of m = object (with_own (own_around (array_by (outline_layer MAX_GROUPS m.width m.height) m.layers) m) m.kept)

abbrev pub outline_text : MapParts → List ℕ
outline_text m = compact_text (outline_of m)
