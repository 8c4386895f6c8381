-- Layers of a map or a group.
use Rattle.std.specs.Prelude.{ℕ, map, ◌==◌, ◌&&◌, ◌||◌, not, ℤ, List, [], ◌∷◌, ◌++◌, Bool, true, false, codes, Option, Some, None, option_and_then}
use Rattle.std.specs.Prelude.{option_map, is_some, is_none, slice_index}
use Rattle.std.specs.Prelude.{unwrap_or, Result, Ok, Err, if◌then◌else◌}
use Rattle.std.specs.Str.{bytes_eq}
use Rattle.serde_json.specs.Data.{Data, string, object, Members, no_members, put}
use Rattle.serde_json.specs.View.{view}
use Rattle.json_members.specs.Members.{put_some}
use Rattle.xml_text.specs.Xml.{Xml, element, text, Children, no_children, child}
use Rattle.tmx_tree.specs.declared.cells.Form.{Form}
use Rattle.tmx_tree.specs.declared.cells.Form.TheVariants.{Elements, Csv, Base64}
use Rattle.tmx_tree.specs.declared.fault.Refusal.{Refusal}
use Rattle.tmx_tree.specs.declared.fault.Refusal.TheVariants.{DrawOrder, Chunks, NoChunks}
use Rattle.tmx_tree.specs.declared.layers.Counted.{Counted}
use Rattle.tmx_tree.specs.declared.layers.Layers.{Layers}
use Rattle.tmx_tree.specs.declared.bounds.Stretch.{Stretch}
use Rattle.tmx_tree.specs.declared.tile_layer.ChunkList as code
use Rattle.tmx_tree.specs.Answers.{◌>>=◌}
use Rattle.tmx_tree.specs.Numbers.{whole_of}
use Rattle.tmx_tree.specs.Rows.{whole_data, with_rows}
use Rattle.tmx_tree.specs.Tables.{layer_rows, size_rows, place_rows, image_layer_rows, object_layer_rows}
use Rattle.tmx_tree.specs.Elements.{Attributes, attribute, attributes_of, kids_of, is_named, first_named, text_in}
use Rattle.tmx_tree.specs.Texts.{is_one_of}
use Rattle.tmx_tree.specs.Properties.{text_at, own_properties, with_note, is_blank}
use Rattle.tmx_tree.specs.Cells.{form_of, cell_count, cells_in, padded, array_of}
use Rattle.tmx_tree.specs.Bounds.{with_chunk_cells, with_bounds}
use Rattle.tmx_tree.specs.Objects.{said_id, id_or_next, id_member, real_at, put_pair, with_objects}

-- ---- what all layers have
-- An image layer is where its `x` and `y` say, if it has no offset.
abbrev pub is_placed : List ℕ → Attributes → Bool
is_placed kind attrs = bytes_eq kind (codes "imagelayer") && is_none (attribute (codes "offsetx") attrs)

abbrev pub with_offset : List ℕ → Attributes → Members → Result Members Refusal
with_offset kind attrs ms =
    real_at (if is_placed kind attrs then codes "x" else codes "offsetx") attrs >>= λ a.
    real_at (if is_placed kind attrs then codes "y" else codes "offsety") attrs >>= λ b.
    Ok (put_pair (codes "offsetx") (codes "offsety") a b ms)

-- a layer of a kind with an id, as far as all layers are alike
unfoldable pub layer_members : List ℕ → Attributes → Children → ℤ → Result Members Refusal
layer_members kind attrs kids id = do
  a ← with_rows layer_rows attrs (put (codes "type") (string kind) (id_member id))
  b ← with_offset kind attrs a
  own_properties kids b

-- ---- an object layer
abbrev pub order_said : Attributes → List ℕ
order_said attrs = unwrap_or (attribute (codes "draworder") attrs) (codes "topdown")

unfoldable pub draw_order : Attributes → Result (List ℕ) Refusal
draw_order attrs = if is_one_of (codes "topdown" ∷ codes "index" ∷ []) (order_said attrs) then Ok (order_said attrs) else Err DrawOrder

abbrev pub with_draw_order : Attributes → Members → Result Members Refusal
with_draw_order attrs ms = draw_order attrs >>= λ order. Ok (put (codes "draworder") (string order) ms)

-- as far as all layers are alike
unfoldable pub object_group : Attributes → Children → ℤ → Result Members Refusal
object_group attrs kids id = layer_members (codes "objectgroup") attrs kids id

unfoldable pub object_layer_members : Attributes → Children → ℤ → Result Members Refusal
object_layer_members attrs kids id = do
  a ← object_group attrs kids id
  b ← with_rows object_layer_rows attrs a
  with_draw_order attrs b

-- an object layer, and the next object's id
unfoldable pub object_layer : Attributes → Children → ℤ → ℕ → Result (Data × ℕ) Refusal
object_layer attrs kids id next = do
  ms ← object_layer_members attrs kids id
  found ← with_objects kids ([], next)
  Ok (object (put (codes "objects") (array_of found.0) ms), found.1)

-- ---- an image layer
-- the size of its image is noted
abbrev pub side_member : List ℕ → Attributes → Option Data
side_member k attrs = option_map whole_data (option_and_then whole_of (attribute k attrs))

abbrev pub image_note : Attributes → Members
image_note attrs =
    put_some (codes "width") (side_member (codes "width") attrs) (put_some (codes "height") (side_member (codes "height") attrs) no_members)

abbrev pub starts_with_hash : List ℕ → Bool
starts_with_hash s = slice_index s 0 == 35

abbrev pub transparent : List ℕ → Option Data
transparent s = if bytes_eq s [] then None else Some (string (if starts_with_hash s then s else codes "#" ++ s))

abbrev pub with_image : Option Xml → Members → Members
with_image None ms = put (codes "image") (string []) ms
with_image (Some x) ms =
    with_note (image_note (attributes_of x))
    (put (codes "image") (string (text_at (codes "source") (attributes_of x)))
    (put_some (codes "transparentcolor") (transparent (text_at (codes "trans") (attributes_of x))) ms))

unfoldable pub image_layer : Attributes → Children → ℤ → Result Data Refusal
image_layer attrs kids id = do
  a ← layer_members (codes "imagelayer") attrs kids id
  b ← with_rows image_layer_rows attrs a
  Ok (object (with_image (first_named (codes "image") kids) b))

-- ---- a tile layer
-- an attribute of its data, and what stands in them; nothing if there are no data
abbrev pub data_text : List ℕ → Option Xml → List ℕ
data_text k None = []
data_text k (Some x) = text_at k (attributes_of x)

abbrev pub data_kids : Option Xml → Children
data_kids None = no_children
data_kids (Some x) = kids_of x

abbrev pub data_form : Option Xml → Result Form Refusal
data_form o = form_of (data_text (codes "encoding") o) (data_text (codes "compression") o)

abbrev pub with_form : Form → List ℕ → Members → Members
with_form Elements packing ms = ms
with_form Csv packing ms = ms
with_form Base64 packing ms = put (codes "encoding") (string (codes "base64")) (put (codes "compression") (string packing) ms)

abbrev pub has_chunk : Children → Bool
has_chunk kids = is_some (first_named (codes "chunk") kids)

-- a layer of a finite map; without data all cells are 0
abbrev pub finite_cells : Form → ℕ → Option Xml → Result Data Refusal
finite_cells form n None = padded n [] >>= λ ds. Ok (array_of ds)
finite_cells form n (Some x) = if has_chunk (kids_of x) then Err Chunks else cells_in form n (kids_of x)

abbrev pub with_finite : Form → Attributes → Option Xml → Members → Result Members Refusal
with_finite form attrs o ms = do
  sized ← with_rows size_rows attrs ms
  n ← cell_count attrs
  cells ← finite_cells form n o
  Ok (put (codes "data") cells sized)

-- a layer of an infinite map: its chunks, and the stretch of their cells
abbrev pub ChunkList : Type 0
ChunkList = List Data × Option Stretch

abbrev pub chunk_members : Attributes → Result Members Refusal
chunk_members attrs = with_rows place_rows attrs no_members >>= λ placed. with_rows size_rows attrs placed

abbrev pub chunk_cells : Form → Xml → Result Data Refusal
chunk_cells form x = cell_count (attributes_of x) >>= λ n. cells_in form n (kids_of x)

abbrev pub with_another_chunk : Form → Xml → ChunkList → Result ChunkList Refusal
with_another_chunk form x chunks = do
  ms ← chunk_members (attributes_of x)
  cells ← chunk_cells form x
  Ok (chunks.0 ++ object (put (codes "data") cells ms) ∷ [], with_chunk_cells (attributes_of x) cells chunks.1)

abbrev pub with_chunk : Form → Xml → ChunkList → Result ChunkList Refusal
with_chunk form x chunks = if is_named (codes "chunk") x then with_another_chunk form x chunks else Ok chunks

abbrev pub with_chunks : Form → Children → ChunkList → Result ChunkList Refusal
with_chunks form no_children chunks = Ok chunks
with_chunks form (child x xs) chunks = with_chunk form x chunks >>= λ more. with_chunks form xs more

-- the code's own record
abbrev pub chunks_view : code.ChunkList → ChunkList
chunks_view c = (map view c.found.items, c.around)

-- whether cells stand in no chunk
abbrev pub is_element : Xml → Bool
is_element (element name attrs kids) = true
is_element (text s) = false

abbrev pub has_elements : Children → Bool
has_elements no_children = false
has_elements (child x xs) = is_element x || has_elements xs

abbrev pub has_loose_cells : Children → Bool
has_loose_cells kids = not (has_chunk kids) && (not (is_blank (text_in kids)) || has_elements kids)

abbrev pub put_chunks : ChunkList → Members → Members
put_chunks chunks ms = with_bounds chunks.1 (put (codes "chunks") (array_of chunks.0) ms)

-- its own width and height, which JSON does not have, are noted
abbrev pub with_all_chunks : Form → Attributes → Children → Members → Result Members Refusal
with_all_chunks form attrs kids ms = do
  note ← with_rows size_rows attrs no_members
  found ← with_chunks form kids ([], None)
  Ok (with_note note (put_chunks found ms))

abbrev pub with_infinite : Form → Attributes → Children → Members → Result Members Refusal
with_infinite form attrs kids ms =
    if has_loose_cells kids then Err NoChunks else with_all_chunks form attrs kids ms

abbrev pub with_cells : Bool → Form → Attributes → Children → Members → Result Members Refusal
with_cells false form attrs kids ms = with_finite form attrs (first_named (codes "data") kids) ms
with_cells true form attrs kids ms = with_infinite form attrs (data_kids (first_named (codes "data") kids)) ms

unfoldable pub tile_layer : Bool → Attributes → Children → ℤ → Result Data Refusal
tile_layer infinite attrs kids id = do
  own ← layer_members (codes "tilelayer") attrs kids id
  form ← data_form (first_named (codes "data") kids)
  ms ← with_cells infinite form attrs kids own
  Ok (object (with_form form (data_text (codes "compression") (first_named (codes "data") kids)) ms))

-- ---- layers, and those in groups
-- the layers found, the next layer's id and the next object's
pub record Found : Type 0 where
  pub layers : List Data
  pub next_layer : ℕ
  pub next_object : ℕ

abbrev pub is_plain : List ℕ → Bool
is_plain name = is_one_of (codes "layer" ∷ codes "objectgroup" ∷ codes "imagelayer" ∷ []) name

-- a layer that is no group, and the next object's id
abbrev pub plain_layer : Bool → List ℕ → Attributes → Children → ℤ → ℕ → Result (Data × ℕ) Refusal
plain_layer infinite name attrs kids id next =
    if bytes_eq name (codes "layer") then (tile_layer infinite attrs kids id >>= λ d. Ok (d, next))
    else (if bytes_eq name (codes "objectgroup") then object_layer attrs kids id next
    else (image_layer attrs kids id >>= λ d. Ok (d, next)))

abbrev pub layers_found : List Data → ℕ → ℕ → Found
layers_found ds m n = record { layers = ds; next_layer = m; next_object = n }

-- the code's own records
abbrev pub layer_view : Counted → Data × ℕ
layer_view c = (view c.layer, c.next)

abbrev pub layers_view : Layers → Found
layers_view l = layers_found (map view l.found.items) l.layer l.object

-- the layers found, and one more that is no group
abbrev pub with_plain : Bool → List ℕ → Attributes → Children → Found → Result Found Refusal
with_plain infinite name attrs kids found = do
  id ← id_or_next (said_id attrs) found.next_layer
  own ← plain_layer infinite name attrs kids id.0 found.next_object
  Ok (layers_found (found.layers ++ own.0 ∷ []) id.1 own.1)

-- the same of a group, in which layers are found so
abbrev pub with_group : Attributes → Children → (Found → Result Found Refusal) → Found → Result Found Refusal
with_group attrs kids inside found = do
  id ← id_or_next (said_id attrs) found.next_layer
  ms ← layer_members (codes "group") attrs kids id.0
  inner ← inside (layers_found [] id.1 found.next_object)
  Ok (layers_found (found.layers ++ object (put (codes "layers") (array_of inner.layers) ms) ∷ []) inner.next_layer inner.next_object)

abbrev mutual
  pub with_layers : Bool → Children → Found → Result Found Refusal
  with_layers infinite no_children found = Ok found
  with_layers infinite (child x xs) found = with_layer infinite x found >>= λ more. with_layers infinite xs more

  pub with_layer : Bool → Xml → Found → Result Found Refusal
  with_layer infinite (element name attrs kids) found =
      if bytes_eq name (codes "group") then with_group attrs kids (λ inner. with_layers infinite kids inner) found
      else (if is_plain name then with_plain infinite name attrs kids found else Ok found)
  with_layer infinite (text s) found = Ok found
