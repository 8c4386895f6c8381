-- Canvases: what a map is drawn on. A map changes places with one when it is resized.
use Rattle.std.specs.Prelude.{◌≡◌, ℕ, zero, suc, ◌+◌, ◌*◌, ℤ, neg_ℤ, ◌≤ℤ◌, List, [], ◌∷◌, ◌++◌, length, map, take, drop, slice_set, slice_index_or, IfSome}
use Rattle.std.specs.Option.{option_map_or, option_to_list}
use Rattle.std.specs.List.{flat_map}
use Rattle.map_model.specs.declared.canvas.Canvas.{Canvas}
use Rattle.map_model.specs.declared.limits.TheConstants.{MAX_GROUPS, MAX_SHIFT}
use Rattle.map_model.specs.declared.parts.Body.{Body}
use Rattle.map_model.specs.declared.parts.Layer.{Layer}
use Rattle.map_model.specs.declared.parts.MapParts.{MapParts}
use Rattle.map_model.specs.declared.parts.Object.{Object}
use Rattle.map_model.specs.Bodies.{body_with_contents, objects_in, tiles_or_none}
use Rattle.map_model.specs.Document.{DocumentParts, LiesIn}
use Rattle.map_model.specs.Groups.{all_drawn, layer_with_layers, tree}
use Rattle.map_model.specs.Keeping.{layer_tier}
use Rattle.map_model.specs.Lists.{Each}
use Rattle.map_model.specs.Objects.{placing_moved, object_moved}
use Rattle.map_model.specs.WellFormed.{IsSize, IsTileValue, IsPlacing}

-- ---- the cells of tile layers
-- the cells of a tile layer, as the one list of a list; another layer has none
abbrev pub lists_in : Body → List (List ℕ)
lists_in b = option_to_list (tiles_or_none b)

abbrev pub lists_of : ℕ × Layer → List (List ℕ)
lists_of d = lists_in d.1.body

-- those of a layer and of those that stand in it
abbrev pub lists_under : ℕ → Layer → List (List ℕ)
lists_under groups l = flat_map lists_of (tree groups layer_tier l)

-- the cells of each tile layer, in drawing order
abbrev pub tile_layers : MapParts → List (List ℕ)
tile_layers m = flat_map lists_of (all_drawn m.layers)

-- ---- a document on a canvas
-- the cells of a tile layer behind so many others: the canvas's cells of that number
abbrev pub cells_on : Canvas → ℕ → List ℕ → List ℕ
cells_on c number own = slice_index_or c.layers number own

-- objects moved by the canvas's pixels
abbrev pub objects_on : Canvas → List Object → List Object
objects_on c = map (object_moved c.right c.down)

-- a body behind so many tile layers
abbrev pub body_on : Canvas → ℕ → Body → Body
body_on c number = body_with_contents (cells_on c number) (objects_on c)

abbrev pub layer_on : Canvas → ℕ → Layer → Layer
layer_on c number l = record l { body = body_on c number l.body }

-- g of each layer of a list, and of the number of tile layers before it; count tells how many a layer makes
abbrev pub each_on : (ℕ → Layer → Layer) → (Layer → ℕ) → ℕ → List Layer → List Layer
each_on g count number [] = []
each_on g count number (l ∷ ls) = g number l ∷ each_on g count (number + count l) ls

-- a layer behind so many tile layers, and those that stand in it
unfoldable pub one_on : ℕ → Canvas → ℕ → Layer → Layer
one_on zero c number l = layer_on c number l
one_on (suc groups) c number l =
    layer_with_layers (each_on (one_on groups c) (λ k. length (lists_under groups k)) (number + length (lists_in l.body))) (layer_on c number l)

-- layers behind so many tile layers, and those that stand in them
abbrev pub layers_on : ℕ → Canvas → ℕ → List Layer → List Layer
layers_on groups c number ls = each_on (one_on groups c) (λ l. length (lists_under groups l)) number ls

abbrev pub map_on : Canvas → MapParts → MapParts
map_on c m = record m { width = c.width; height = c.height; layers = layers_on MAX_GROUPS c 0 m.layers }

-- the document with the size, the cells and the selection of a canvas, and its objects moved by the canvas's pixels
abbrev pub with_canvas : Canvas → DocumentParts → DocumentParts
with_canvas c d = record { map = map_on c d.map; selection = c.selection }

-- the document's own canvas, with these pixels
abbrev pub canvas_of : DocumentParts → ℤ → ℤ → Canvas
canvas_of d right down = record {
  width = d.map.width;
  height = d.map.height;
  layers = tile_layers d.map;
  selection = d.selection;
  right = right;
  down = down;
}

-- the canvas that turns a document back which was put on this one
abbrev pub canvas_back : Canvas → DocumentParts → Canvas
canvas_back c d = canvas_of d (neg_ℤ c.right) (neg_ℤ c.down)

-- ---- what fits
-- a number of pixels by which objects are moved
pub record IsShift (z : ℤ) : Type 0 where
  pub low : neg_ℤ MAX_SHIFT ≤ℤ z
  pub high : z ≤ℤ MAX_SHIFT

-- the values of a tile layer of so many cells
abbrev pub AreCells : ℕ → List ℕ → Type 0
AreCells size cells = (length cells ≡ size) × Each IsTileValue cells

-- an object that is moved stays within its limits
abbrev pub MayBeMoved : ℤ → ℤ → Object → Type 0
MayBeMoved right down o = IsPlacing (placing_moved right down o.placing)

-- each object of a body may be moved
abbrev pub BodyMayBeMoved : ℤ → ℤ → Body → Type 0
BodyMayBeMoved right down body = IfSome (objects_in body) (Each (MayBeMoved right down))

-- each object of a layer may be moved
abbrev pub MayBeDrawn : ℤ → ℤ → ℕ × Layer → Type 0
MayBeDrawn right down d = BodyMayBeMoved right down d.1.body

-- the document fits on the canvas, which has cells for each of its tile layers
pub record IsCanvasOf (d : DocumentParts) (c : Canvas) : Type 0 where
  pub size : IsSize c.width c.height
  pub count : length c.layers ≡ length (tile_layers d.map)
  pub cells : Each (AreCells (c.width * c.height)) c.layers
  pub selection : LiesIn c.width c.height c.selection
  pub right : IsShift c.right
  pub down : IsShift c.down
  pub objects : Each (MayBeDrawn c.right c.down) (all_drawn d.map.layers)

-- ---- one body at a time
-- the lists of cells when a body behind so many tile layers has taken its cells and left its own
abbrev pub lists_after : ℕ → Body → List (List ℕ) → List (List ℕ)
lists_after number b lists = option_map_or (λ own. slice_set lists number own) (tiles_or_none b) lists

-- lists with others instead of as many of them, from a number on
abbrev pub lists_left : ℕ → List (List ℕ) → List (List ℕ) → List (List ℕ)
lists_left number own lists = take number lists ++ (own ++ drop (number + length own) lists)

abbrev pub with_lists : List (List ℕ) → Canvas → Canvas
with_lists lists c = record c { layers = lists }
