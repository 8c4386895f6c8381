-- How many columns and tiles a tileset has that does not say it: as many as its picture has room for.
use Rattle.std.specs.Prelude.{ℕ, ◌+◌, ◌-◌, ◌*◌, ◌/◌, ◌&&◌, ◌||◌, max, Bool, false, nat_lt, nat_le, List, codes, Option, Some, None, is_some}
use Rattle.std.specs.Prelude.{if◌then◌else◌}
use Rattle.serde_json.specs.Data.{unsigned, number, Members, put}
use Rattle.xml_text.specs.Xml.{Xml}
use Rattle.tmx_tree.specs.declared.counts.TheConstants.{MOST_TILES}
use Rattle.tmx_tree.specs.Elements.{Attributes, attribute, attributes_of, kids_of, first_named}
use Rattle.tmx_tree.specs.Cells.{side}

-- how many tiles stand side by side, so far apart, behind the margin
abbrev pub tiles_along : ℕ → ℕ → ℕ → ℕ → ℕ
tiles_along whole tile margin spacing = (whole + spacing - margin) / max (tile + spacing) 1

unfoldable pub across : Attributes → Attributes → ℕ
across attrs image = tiles_along (side (codes "width") image) (side (codes "tilewidth") attrs) (side (codes "margin") attrs) (side (codes "spacing") attrs)

unfoldable pub down : Attributes → Attributes → ℕ
down attrs image = tiles_along (side (codes "height") image) (side (codes "tileheight") attrs) (side (codes "margin") attrs) (side (codes "spacing") attrs)

-- both the picture and a tile have a size
abbrev pub has_area : List ℕ → List ℕ → Attributes → Bool
has_area k l attrs = nat_lt 0 (side k attrs) && nat_lt 0 (side l attrs)

abbrev pub is_sized : Attributes → Attributes → Bool
is_sized attrs image = has_area (codes "width") (codes "height") image && has_area (codes "tilewidth") (codes "tileheight") attrs

abbrev pub tile_count : Attributes → Attributes → Option ℕ
tile_count attrs image =
    if is_sized attrs image && nat_le (across attrs image * down attrs image) MOST_TILES then Some (across attrs image * down attrs image) else None

-- a number is put where none is said
abbrev pub put_absent : List ℕ → ℕ → Attributes → Members → Members
put_absent k n attrs ms = if is_some (attribute k attrs) then ms else put k (number (unsigned n)) ms

abbrev pub with_count : Option ℕ → Attributes → Attributes → Members → Members
with_count None attrs image ms = ms
with_count (Some n) attrs image ms = put_absent (codes "columns") (across attrs image) attrs (put_absent (codes "tilecount") n attrs ms)

abbrev pub counted_in : Attributes → Option Xml → Members → Members
counted_in attrs None ms = ms
counted_in attrs (Some x) ms = with_count (tile_count attrs (attributes_of x)) attrs (attributes_of x) ms

abbrev pub is_counted_in : Attributes → Option Xml → Bool
is_counted_in attrs None = false
is_counted_in attrs (Some x) = is_some (tile_count attrs (attributes_of x))

abbrev pub says_counts : Attributes → Bool
says_counts attrs = is_some (attribute (codes "tilecount") attrs) && is_some (attribute (codes "columns") attrs)

-- both are put where they are known
unfoldable pub with_counts : Xml → Members → Members
with_counts x ms = if says_counts (attributes_of x) then ms else counted_in (attributes_of x) (first_named (codes "image") (kids_of x)) ms

abbrev pub has_counts : Xml → Bool
has_counts x = says_counts (attributes_of x) || is_counted_in (attributes_of x) (first_named (codes "image") (kids_of x))
