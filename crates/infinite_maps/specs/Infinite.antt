-- The infinite map that a finite one with a note is.
use Rattle.std.specs.Prelude.{ℕ, List, codes, ℤ, Bool, true, false, Option, Some, None, option_and_then, if◌then◌else◌}
use Rattle.std.specs.Int.{w64, int_wrapping_add}
use Rattle.std.specs.Str.{bytes_eq}
use Rattle.serde_json.specs.Data.{Num, Data, null, boolean, number, string, array, object, Items, no_items, item, Members, no_members, member, put}
use Rattle.serde_json.specs.Find.{get, get_member, as_i64, as_bool, of_integer}
use Rattle.infinite_maps.specs.declared.plane.Plane.{Plane}
use Rattle.infinite_maps.specs.declared.part.Part.{Part}
use Rattle.infinite_maps.specs.declared.part.Part.TheVariants.{Layers, Objects, Across, Down, Rest}
use Rattle.infinite_maps.specs.Notes.{mark, plane_of}
use Rattle.json_members.specs.Members.{without, put_some}
use Rattle.infinite_maps.specs.Layers.{layer_of}

-- what a member of this name is
abbrev pub part_of_object : List ℕ → Part
part_of_object k = if bytes_eq k (codes "x") then Across else (if bytes_eq k (codes "y") then Down else Rest)

abbrev pub part_of_layer : List ℕ → Part
part_of_layer k = if bytes_eq k (codes "layers") then Layers else (if bytes_eq k (codes "objects") then Objects else Rest)

abbrev pub below : Part → List ℕ → Part
below Layers k = part_of_layer k
below Objects k = part_of_object k
below Across k = Rest
below Down k = Rest
below Rest k = Rest

-- a whole number of pixels, moved
abbrev pub moved_by : ℤ → Num → Option ℤ → Data
moved_by z n None = number n
moved_by z n (Some m) = number (of_integer (int_wrapping_add w64 m z))

abbrev pub moved : Plane → Part → Num → Data
moved p Layers n = number n
moved p Objects n = number n
moved p Across n = moved_by p.moved_x n (as_i64 n)
moved p Down n = moved_by p.moved_y n (as_i64 n)
moved p Rest n = number n

-- the members of a layer, whose groups and objects were seen to
abbrev pub own : Plane → Part → Members → Members
own p Layers ms = layer_of p ms
own p Objects ms = ms
own p Across ms = ms
own p Down ms = ms
own p Rest ms = ms

abbrev mutual
  pub spread : Plane → Part → Data → Data
  spread p part null = null
  spread p part (boolean b) = boolean b
  spread p part (number n) = moved p part n
  spread p part (string s) = string s
  spread p part (array ds) = array (items_spread p part ds)
  spread p part (object ms) = object (own p part (members_spread p part ms))

  pub items_spread : Plane → Part → Items → Items
  items_spread p part no_items = no_items
  items_spread p part (item d ds) = item (spread p part d) (items_spread p part ds)

  pub members_spread : Plane → Part → Members → Members
  members_spread p part no_members = no_members
  members_spread p part (member k d ms) = member k (spread p (below part k) d) (members_spread p part ms)

-- the note of a map that was infinite
abbrev pub note_of : Members → Option Data
note_of ms = option_and_then (get (codes "infinite")) (get_member mark ms)

abbrev pub with_size : Data → Members → Members
with_size note ms =
    put (codes "infinite") (boolean true) (
    put_some (codes "height") (get (codes "height") note) (
    put_some (codes "width") (get (codes "width") note) (
    without (codes "height") (without (codes "width") (without mark ms)))))

abbrev pub map_by : Members → Option Data → Option Data
map_by ms None = None
map_by ms (Some note) = Some (object (with_size note (members_spread (plane_of ms note) Layers ms)))

-- the infinite map, where the map has a note of it
abbrev pub infinite_of : Data → Option Data
infinite_of null = None
infinite_of (boolean b) = None
infinite_of (number n) = None
infinite_of (string s) = None
infinite_of (array ds) = None
infinite_of (object ms) = map_by ms (note_of ms)

-- whether a map says that it is infinite
abbrev pub is_true : Option Bool → Bool
is_true None = false
is_true (Some b) = b

abbrev pub is_infinite : Data → Bool
is_infinite d = is_true (option_and_then as_bool (get (codes "infinite") d))
