-- The tables: the attributes of each kind of element that are members of the same name, how each is read, and when it is a member.
use Rattle.std.specs.Prelude.{pos, negsuc, List, [], ◌∷◌, codes, true, false, Result}
use Rattle.serde_json.specs.Data.{Members}
use Rattle.tmx_tree.specs.declared.fault.Refusal.{Refusal}
use Rattle.tmx_tree.specs.declared.row.Kind.TheVariants.{Text, Whole, Unsigned, Real, Flag}
use Rattle.tmx_tree.specs.declared.row.Shown.TheVariants.{Always, Given, Read, Unusual}
use Rattle.tmx_tree.specs.Answers.{◌>>=◌}
use Rattle.tmx_tree.specs.Elements.{Attributes}
use Rattle.tmx_tree.specs.Rows.{Named, row, with_rows}

-- a map
unfoldable pub map_rows : List Named
map_rows =
    row (codes "version") Text Given
    ∷ row (codes "tiledversion") Text Given
    ∷ row (codes "class") Text Unusual
    ∷ row (codes "compressionlevel") (Whole (negsuc 0)) Always
    ∷ row (codes "backgroundcolor") Text Unusual
    ∷ []

unfoldable pub map_size_rows : List Named
map_size_rows =
    row (codes "width") (Whole (pos 0)) Always
    ∷ row (codes "height") (Whole (pos 0)) Always
    ∷ row (codes "tilewidth") (Whole (pos 0)) Always
    ∷ row (codes "tileheight") (Whole (pos 0)) Always
    ∷ row (codes "infinite") (Flag false) Always
    ∷ []

unfoldable pub with_map_rows : Attributes → Members → Result Members Refusal
with_map_rows attrs ms = with_rows map_rows attrs ms >>= λ more. with_rows map_size_rows attrs more

-- a hexagonal map, besides
unfoldable pub hexagonal_rows : List Named
hexagonal_rows = row (codes "hexsidelength") (Whole (pos 0)) Always ∷ []

-- a layer of any kind
unfoldable pub layer_rows : List Named
layer_rows =
    row (codes "name") Text Always
    ∷ row (codes "class") Text Unusual
    ∷ row (codes "x") (Whole (pos 0)) Always
    ∷ row (codes "y") (Whole (pos 0)) Always
    ∷ row (codes "visible") (Flag true) Always
    ∷ row (codes "locked") (Flag false) Unusual
    ∷ []

unfoldable pub look_rows : List Named
look_rows =
    row (codes "opacity") (Real (pos 1)) Always
    ∷ row (codes "tintcolor") Text Unusual
    ∷ row (codes "parallaxx") (Real (pos 1)) Unusual
    ∷ row (codes "parallaxy") (Real (pos 1)) Unusual
    ∷ row (codes "mode") Text Unusual
    ∷ []

unfoldable pub with_layer_rows : Attributes → Members → Result Members Refusal
with_layer_rows attrs ms = with_rows layer_rows attrs ms >>= λ more. with_rows look_rows attrs more

-- a tile layer of a finite map, or a chunk, besides
unfoldable pub size_rows : List Named
size_rows = row (codes "width") (Whole (pos 0)) Always ∷ row (codes "height") (Whole (pos 0)) Always ∷ []

unfoldable pub place_rows : List Named
place_rows = row (codes "x") (Whole (pos 0)) Always ∷ row (codes "y") (Whole (pos 0)) Always ∷ []

-- an image layer, besides
unfoldable pub image_layer_rows : List Named
image_layer_rows = row (codes "repeatx") (Flag false) Unusual ∷ row (codes "repeaty") (Flag false) Unusual ∷ []

-- an object layer, besides
unfoldable pub object_layer_rows : List Named
object_layer_rows = row (codes "color") Text Unusual ∷ []

-- an object, be it of a template or not
unfoldable pub object_rows : List Named
object_rows =
    row (codes "class") Text Unusual
    ∷ row (codes "gid") Unsigned Unusual
    ∷ row (codes "x") (Real (pos 0)) Always
    ∷ row (codes "y") (Real (pos 0)) Always
    ∷ row (codes "opacity") (Real (pos 1)) Unusual
    ∷ []

-- an object of no template, besides
unfoldable pub own_object_rows : List Named
own_object_rows =
    row (codes "name") Text Always
    ∷ row (codes "type") Text Always
    ∷ row (codes "width") (Real (pos 0)) Always
    ∷ row (codes "height") (Real (pos 0)) Always
    ∷ row (codes "rotation") (Real (pos 0)) Always
    ∷ row (codes "visible") (Flag true) Always
    ∷ []

-- an object of a template, besides: what is not said is the template's
unfoldable pub instance_rows : List Named
instance_rows =
    row (codes "template") Text Always
    ∷ row (codes "name") Text Unusual
    ∷ row (codes "type") Text Unusual
    ∷ row (codes "rotation") (Real (pos 0)) Read
    ∷ row (codes "visible") (Flag true) Read
    ∷ []

-- the text of an object
unfoldable pub text_rows : List Named
text_rows =
    row (codes "wrap") (Flag false) Unusual
    ∷ row (codes "bold") (Flag false) Unusual
    ∷ row (codes "italic") (Flag false) Unusual
    ∷ row (codes "underline") (Flag false) Unusual
    ∷ row (codes "strikeout") (Flag false) Unusual
    ∷ row (codes "kerning") (Flag true) Unusual
    ∷ row (codes "pixelsize") (Whole (pos 16)) Unusual
    ∷ []

-- a tileset
unfoldable pub tileset_rows : List Named
tileset_rows =
    row (codes "name") Text Always
    ∷ row (codes "class") Text Unusual
    ∷ row (codes "tilecount") (Whole (pos 0)) Given
    ∷ row (codes "columns") (Whole (pos 0)) Given
    ∷ row (codes "backgroundcolor") Text Unusual
    ∷ []

unfoldable pub tileset_size_rows : List Named
tileset_size_rows =
    row (codes "tilewidth") (Whole (pos 0)) Always
    ∷ row (codes "tileheight") (Whole (pos 0)) Always
    ∷ row (codes "spacing") (Whole (pos 0)) Always
    ∷ row (codes "margin") (Whole (pos 0)) Always
    ∷ row (codes "tilerendersize") Text Unusual
    ∷ row (codes "fillmode") Text Unusual
    ∷ []

unfoldable pub with_tileset_rows : Attributes → Members → Result Members Refusal
with_tileset_rows attrs ms = with_rows tileset_rows attrs ms >>= λ more. with_rows tileset_size_rows attrs more

-- one that stands in the map, besides
unfoldable pub embedded_rows : List Named
embedded_rows = row (codes "firstgid") Unsigned Always ∷ []

-- one that is a file of its own, besides
unfoldable pub file_rows : List Named
file_rows = row (codes "version") Text Given ∷ row (codes "tiledversion") Text Given ∷ []

-- how its tiles may be turned
unfoldable pub turning_rows : List Named
turning_rows =
    row (codes "hflip") (Flag false) Always
    ∷ row (codes "vflip") (Flag false) Always
    ∷ row (codes "rotate") (Flag false) Always
    ∷ row (codes "preferuntransformed") (Flag false) Always
    ∷ []

-- a tile of it
unfoldable pub tile_rows : List Named
tile_rows =
    row (codes "id") (Whole (pos 0)) Always
    ∷ row (codes "type") Text Unusual
    ∷ row (codes "class") Text Unusual
    ∷ row (codes "probability") (Real (pos 1)) Unusual
    ∷ []

-- the part of its picture that it is
unfoldable pub part_rows : List Named
part_rows =
    row (codes "x") (Whole (pos 0)) Given
    ∷ row (codes "y") (Whole (pos 0)) Given
    ∷ row (codes "width") (Whole (pos 0)) Given
    ∷ row (codes "height") (Whole (pos 0)) Given
    ∷ []

unfoldable pub with_tile_rows : Attributes → Members → Result Members Refusal
with_tile_rows attrs ms = with_rows tile_rows attrs ms >>= λ more. with_rows part_rows attrs more

-- a frame of its animation
unfoldable pub frame_rows : List Named
frame_rows = row (codes "tileid") (Whole (pos 0)) Always ∷ row (codes "duration") (Whole (pos 0)) Always ∷ []

-- a wang set of it, besides its type
unfoldable pub wang_set_rows : List Named
wang_set_rows = row (codes "name") Text Always ∷ row (codes "class") Text Unusual ∷ row (codes "tile") (Whole (pos 0)) Always ∷ []

-- a color of that
unfoldable pub wang_color_rows : List Named
wang_color_rows =
    row (codes "name") Text Always
    ∷ row (codes "class") Text Unusual
    ∷ row (codes "color") Text Always
    ∷ row (codes "tile") (Whole (pos 0)) Always
    ∷ row (codes "probability") (Real (pos 0)) Always
    ∷ []

-- a tile of that, besides its colors
unfoldable pub wang_tile_rows : List Named
wang_tile_rows = row (codes "tileid") (Whole (pos 0)) Always ∷ []
