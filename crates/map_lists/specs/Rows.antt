-- All layers of a map, as rows in drawing order.
use Rattle.std.specs.Prelude.{ℕ, zero, suc, List, [], ◌∷◌, length, Option, Some, None}
use Rattle.std.specs.List.{flat_map}
use Rattle.map_model.specs.declared.limits.TheConstants.{MAX_GROUPS}
use Rattle.map_model.specs.declared.parts.Body.{Body}
use Rattle.map_model.specs.declared.parts.Body.TheVariants.{Tiles, Objects, Other, Group'}
use Rattle.map_model.specs.declared.parts.Layer.{Layer}
use Rattle.map_model.specs.declared.parts.MapParts.{MapParts}
use Rattle.map_model.specs.Groups.{group_in, inside}
use Rattle.map_model.specs.Lists.{or_empty}
use Rattle.map_lists.specs.declared.rows.Kind.{Kind}
use Rattle.map_lists.specs.declared.rows.Kind.TheVariants as kinds
use Rattle.map_lists.specs.declared.rows.LayerRow.{LayerRow}

abbrev pub kind_of : Body → Kind
kind_of (Tiles e cells) = kinds.Tiles
kind_of (Objects os) = kinds.Objects
kind_of Other = kinds.Image
kind_of (Group' s r) = kinds.Group

-- how many objects or layers it has
abbrev pub count_of : Body → ℕ
count_of (Objects os) = length os
count_of b = length (or_empty (group_in b))

-- a layer that stands in this group, or in none
abbrev pub row_of : Option ℕ → Layer → LayerRow
row_of parent l = record { id = l.id; parent = parent; kind = kind_of l.body; is_visible = l.visible; count = count_of l.body }

-- it, and behind it those that stand in it, where so many groups may still stand inside one another
unfoldable pub rows_under : ℕ → Option ℕ → Layer → List LayerRow
rows_under zero parent l = row_of parent l ∷ []
rows_under (suc groups) parent l = row_of parent l ∷ flat_map (rows_under groups (Some l.id)) (inside l)

abbrev pub rows_among : ℕ → Option ℕ → List Layer → List LayerRow
rows_among groups parent ls = flat_map (rows_under groups parent) ls

-- those of a map
abbrev pub layer_rows : MapParts → List LayerRow
layer_rows m = rows_among MAX_GROUPS None m.layers
