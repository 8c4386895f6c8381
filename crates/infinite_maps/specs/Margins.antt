-- A finite map that gets columns and rows at its left and top, and all of which stays where it was on the plane: its notes.
use Rattle.std.specs.Prelude.{◌+◌, ◌-◌, ◌^◌, min, List, ℕ, codes, ℤ, pos, Option, option_map, unwrap_or, is_some, Bool}
use Rattle.std.specs.Prelude.{if◌then◌else◌}
use Rattle.std.specs.Int.{w64, int_wrapping_sub}
use Rattle.serde_json.specs.Data.{Data, array, object, Items, no_items, item, Members}
use Rattle.serde_json.specs.Find.{at, get_member, as_array, as_object}
use Rattle.json_members.specs.Members.{put_some}
use Rattle.infinite_maps.specs.declared.margin.Corner.{Corner}
use Rattle.infinite_maps.specs.declared.margin.Edge.{Edge}
use Rattle.infinite_maps.specs.declared.margin.Margin.{Margin}
use Rattle.infinite_maps.specs.Finite.{with_whole}
use Rattle.infinite_maps.specs.Infinite.{note_of}
use Rattle.infinite_maps.specs.Layers.{whole_number}
use Rattle.infinite_maps.specs.Notes.{mark, natural, integer}
use Rattle.infinite_maps.specs.Survey.{lost}

-- ---- f of a part of a tree
-- the members with f of the one with a name, where it is there
abbrev pub with_part : List ℕ → (Data → Data) → Members → Members
with_part name f ms = put_some name (option_map f (get_member name ms)) ms

-- an object with f of its members; another value as it is
abbrev pub with_members : (Members → Members) → Data → Data
with_members f d = unwrap_or (option_map (λ ms. object (f ms)) (as_object d)) d

abbrev pub each_item : (Data → Data) → Items → Items
each_item f no_items = no_items
each_item f (item d ds) = item (f d) (each_item f ds)

-- an array with f of each element; another value as it is
abbrev pub with_items : (Data → Data) → Data → Data
with_items f d = unwrap_or (option_map (λ ds. array (each_item f ds)) (as_array d)) d

-- ---- the note of the map
-- whether a map has the note by which an infinite one was made finite
abbrev pub has_note : Members → Bool
has_note ms = is_some (note_of ms)

-- a whole number of the note, so much less
abbrev pub less : List ℕ → ℕ → Members → ℤ
less name by note = int_wrapping_sub w64 (integer (get_member name note)) (pos by)

-- the side of a new chunk
abbrev pub side_in : List ℕ → Members → ℕ
side_in name note = min (natural (get_member name note)) 4096

-- one side of the map: where it lies, what it leaves over of a chunk, and how far objects are moved; so many cells and pixels less
abbrev pub edge_with : List ℕ → List ℕ → List ℕ → ℕ → ℕ → Members → Edge
edge_with place chunk moved cells pixels note = record {
  place = less place cells note;
  lost = lost (less place cells note) (side_in chunk note);
  moved = less moved pixels note;
}

abbrev pub with_edge : List ℕ → List ℕ → List ℕ → Edge → Members → Members
with_edge place lost moved e note = with_whole moved e.moved (with_whole lost (pos e.lost) (with_whole place e.place note))

-- both sides
abbrev pub corner_with : Margin → Members → Corner
corner_with m note = record {
  left = edge_with (codes "x") (codes "chunkwidth") (codes "movedx") m.columns m.right note;
  top = edge_with (codes "y") (codes "chunkheight") (codes "movedy") m.rows m.down note;
}

abbrev pub with_corner : Corner → Members → Members
with_corner c note =
    with_edge (codes "y") (codes "losty") (codes "movedy") c.top (with_edge (codes "x") (codes "lostx") (codes "movedx") c.left note)

abbrev pub note_with : Margin → Members → Members
note_with m note = with_corner (corner_with m note) note

-- the notes of a map
abbrev pub notes_with : Margin → Data → Data
notes_with m = with_members (with_part (codes "infinite") (with_members (note_with m)))

-- the members of a map that has got the margin, and then is where it was
abbrev pub map_with : Margin → Members → Members
map_with m = with_part mark (notes_with m)

-- ---- the note of a layer
-- a number that is so much more
abbrev pub more : ℕ → Option Data → Data
more by d = whole_number (min (natural d + by) (2 ^ 64 - 1))

-- a rectangle `[left, top, width, height]`, moved
abbrev pub rectangle_with : Margin → Data → Data
rectangle_with m d = array (item (more m.columns (at 0 d)) (item (more m.rows (at 1 d)) (item (more 0 (at 2 d)) (item (more 0 (at 3 d)) no_items))))

-- where it is an array
abbrev pub rectangle_moved : Margin → Data → Data
rectangle_moved m d = if is_some (as_array d) then rectangle_with m d else d

-- where the chunks of a layer were, as far from the new corner
abbrev pub chunks_with : Margin → Data → Data
chunks_with m = with_members (with_part (codes "chunks") (with_items (rectangle_moved m)))

-- the members of a layer of such a map
abbrev pub layer_with : Margin → Members → Members
layer_with m = with_part mark (chunks_with m)
