-- A map in XML, as the tree that Tiled's JSON has of it.
use Rattle.std.specs.Prelude.{ℕ, ◌==◌, ◌&&◌, not, max, pos, List, [], ◌∷◌, ◌++◌, Bool, nat_le, codes, Option, Some, None}
use Rattle.std.specs.Prelude.{option_and_then, option_map}
use Rattle.std.specs.Prelude.{unwrap_or, Result, Ok, Err, if◌then◌else◌}
use Rattle.std.specs.Result.{result_ok}
use Rattle.std.specs.Str.{bytes_eq}
use Rattle.serde_json.specs.Data.{unsigned, Data, number, string, object, Members, no_members, member, put, depth}
use Rattle.serde_json.specs.Read.{max_depth}
use Rattle.json_members.specs.Members.{put_some}
use Rattle.xml_text.specs.Xml.{Xml, element, text, Children, no_children, child}
use Rattle.tmx_tree.specs.declared.fault.Refusal.{Refusal}
use Rattle.tmx_tree.specs.declared.fault.Refusal.TheVariants.{NotAMap, Orientation, TooDeep}
use Rattle.tmx_tree.specs.declared.fault.Fault.{Fault}
use Rattle.tmx_tree.specs.declared.fault.Fault.TheVariants.{Memory, Refused}
use Rattle.tmx_tree.specs.Answers.{◌>>=◌}
use Rattle.tmx_tree.specs.Numbers.{whole_of, unsigned_of}
use Rattle.tmx_tree.specs.Rows.{with_rows, is_whole_data}
use Rattle.tmx_tree.specs.Tables.{map_rows, hexagonal_rows}
use Rattle.tmx_tree.specs.Elements.{Attributes, attribute, attributes_of, kids_of, is_named, first_named}
use Rattle.tmx_tree.specs.Texts.{is_one_of, one_of}
use Rattle.tmx_tree.specs.Properties.{text_at, unless_empty, own_properties, are_none, with_note}
use Rattle.tmx_tree.specs.Cells.{array_of}
use Rattle.tmx_tree.specs.Objects.{with_pair, text_unless}
use Rattle.tmx_tree.specs.Layers.{Found, layers_found, with_layers}
use Rattle.tmx_tree.specs.Tilesets.{with_tilesets}

-- ---- its shape
abbrev pub orientations : List (List ℕ)
orientations = codes "orthogonal" ∷ codes "isometric" ∷ codes "staggered" ∷ codes "hexagonal" ∷ []

abbrev pub orientation : Attributes → List ℕ
orientation attrs = text_at (codes "orientation") attrs

abbrev pub with_orientation : Attributes → Members → Result Members Refusal
with_orientation attrs ms =
    if is_one_of orientations (orientation attrs) then Ok (put (codes "orientation") (string (orientation attrs)) ms) else Err Orientation

abbrev pub with_order : Attributes → Members → Members
with_order attrs ms =
    put (codes "renderorder")
    (string (one_of (codes "right-up" ∷ codes "left-down" ∷ codes "left-up" ∷ []) (codes "right-down") (text_at (codes "renderorder") attrs))) ms

-- which rows or columns are shifted
abbrev pub with_shift : Attributes → Members → Members
with_shift attrs ms =
    put (codes "staggeraxis") (string (one_of (codes "x" ∷ []) (codes "y") (text_at (codes "staggeraxis") attrs)))
    (put (codes "staggerindex") (string (one_of (codes "even" ∷ []) (codes "odd") (text_at (codes "staggerindex") attrs))) ms)

abbrev pub with_stagger : Attributes → Members → Members
with_stagger attrs ms = if is_one_of (codes "staggered" ∷ codes "hexagonal" ∷ []) (orientation attrs) then with_shift attrs ms else ms

abbrev pub with_hexagons : Attributes → Members → Result Members Refusal
with_hexagons attrs ms = if bytes_eq (orientation attrs) (codes "hexagonal") then with_rows hexagonal_rows attrs ms else Ok ms

abbrev pub map_type : Members
map_type = member (codes "type") (string (codes "map")) no_members

-- all that its own attributes say, but for the next ids
unfoldable pub own_members : Attributes → Result Members Refusal
own_members attrs = do
  a ← with_orientation attrs (with_order attrs (with_stagger attrs map_type))
  b ← with_hexagons attrs a
  c ← with_rows map_rows attrs b
  with_pair (codes "parallaxoriginx") (codes "parallaxoriginy") attrs c

-- ---- the settings of the editor
-- the side of a chunk: 16 where none is said, 4 at least
abbrev pub chunk_side : Option ℕ → ℕ
chunk_side None = 16
chunk_side (Some n) = if n == 0 then 16 else max n 4

abbrev pub side_of_chunk : List ℕ → Attributes → ℕ
side_of_chunk k attrs = chunk_side (option_and_then unsigned_of (attribute k attrs))

abbrev pub size_data : ℕ → ℕ → Data
size_data w h = object (put (codes "width") (number (unsigned w)) (put (codes "height") (number (unsigned h)) no_members))

abbrev pub chunk_size : Attributes → Option Data
chunk_size attrs =
    if side_of_chunk (codes "width") attrs == 16 && side_of_chunk (codes "height") attrs == 16 then None
    else Some (size_data (side_of_chunk (codes "width") attrs) (side_of_chunk (codes "height") attrs))

abbrev pub unless_no_members : Members → Option Data
unless_no_members ms = if are_none ms then None else Some (object ms)

abbrev pub export_of : Attributes → Option Data
export_of attrs =
    unless_no_members (put_some (codes "target") (text_unless ([] ∷ codes "." ∷ []) (text_at (codes "target") attrs))
    (put_some (codes "format") (unless_empty (text_at (codes "format") attrs)) no_members))

abbrev pub export_in : Children → Option Data
export_in kids = option_and_then (λ x. export_of (attributes_of x)) (first_named (codes "export") kids)

abbrev pub chunk_size_in : Children → Option Data
chunk_size_in kids = option_and_then (λ x. chunk_size (attributes_of x)) (first_named (codes "chunksize") kids)

abbrev pub settings_in : Children → Option Data
settings_in kids = unless_no_members (put_some (codes "chunksize") (chunk_size_in kids) (put_some (codes "export") (export_in kids) no_members))

abbrev pub settings : Children → Option Data
settings kids = option_and_then (λ x. settings_in (kids_of x)) (first_named (codes "editorsettings") kids)

-- ---- the next ids, where layers and objects are counted that have none
abbrev pub next_said : List ℕ → Attributes → ℕ
next_said k attrs = max (unwrap_or (option_and_then unsigned_of (attribute k attrs)) 0) 1

abbrev pub is_infinite : Attributes → Bool
is_infinite attrs = not (is_whole_data (pos 0) (Some (unwrap_or (option_and_then whole_of (attribute (codes "infinite") attrs)) (pos 0))))

unfoldable pub layers_of : Attributes → Children → Result Found Refusal
layers_of attrs kids = with_layers (is_infinite attrs) kids (layers_found [] (next_said (codes "nextlayerid") attrs) (next_said (codes "nextobjectid") attrs))

abbrev pub put_layers : Found → Members → Members
put_layers found ms =
    put (codes "layers") (array_of found.layers)
    (put (codes "nextlayerid") (number (unsigned found.next_layer)) (put (codes "nextobjectid") (number (unsigned found.next_object)) ms))

-- ---- what is noted of a map: its version, which the editor sets, and the format of its first tile layer
abbrev pub format_of : List ℕ → List ℕ → List ℕ
format_of encoding packing =
    if bytes_eq encoding [] then codes "xml" else (if bytes_eq packing [] then encoding else encoding ++ codes "-" ++ packing)

abbrev pub format_data : Attributes → Data
format_data attrs = string (format_of (text_at (codes "encoding") attrs) (text_at (codes "compression") attrs))

abbrev pub format_in : Option Xml → Option Data
format_in None = None
format_in (Some x) = Some (format_data (attributes_of x))

abbrev pub or_else : Option Data → Option Data → Option Data
or_else None other = other
or_else (Some d) other = Some d

abbrev mutual
  pub first_format : Children → Option Data
  first_format no_children = None
  first_format (child x xs) = or_else (own_format x) (first_format xs)

  pub own_format : Xml → Option Data
  own_format (element name attrs kids) =
      if bytes_eq name (codes "layer") then format_in (first_named (codes "data") kids)
      else (if bytes_eq name (codes "group") then first_format kids else None)
  own_format (text s) = None

abbrev pub version_of : Attributes → Option Data
version_of attrs = option_map string (attribute (codes "version") attrs)

unfoldable pub map_note : Attributes → Children → Members
map_note attrs kids =
    put_some (codes "version") (version_of attrs) (put_some (codes "format") (first_format kids) no_members)

-- ---- all of it
abbrev pub map_members : Attributes → Children → Result Members Refusal
map_members attrs kids = do
  own ← own_members attrs
  valued ← own_properties kids (put_some (codes "editorsettings") (settings kids) own)
  sets ← with_tilesets kids []
  found ← layers_of attrs kids
  Ok (with_note (map_note attrs kids) (put (codes "tilesets") (array_of sets) (put_layers found valued)))

-- a tree that nests no deeper than JSON is read
abbrev pub within : Data → Result Data Refusal
within d = if nat_le (depth d) max_depth then Ok d else Err TooDeep

-- the tree, or why there is none
abbrev pub tree_of : Xml → Result Data Refusal
tree_of x = if is_named (codes "map") x then (map_members (attributes_of x) (kids_of x) >>= λ ms. within (object ms)) else Err NotAMap

-- any fault but that memory ran out
abbrev pub IsRefused : Fault → Type 0
IsRefused Memory = ⊥
IsRefused (Refused r) = Unit {0}

abbrev pub tmx_tree : Xml → Option Data
tmx_tree x = result_ok (tree_of x)
