-- The finite map of an infinite one, and why there is none.
use Rattle.std.specs.Prelude.{◌≡◌, ◌≢◌, ◌||◌, ◌&&◌, List, ℕ, codes, ℤ, pos, Bool, true, false, not, Option, Some, None, if◌then◌else◌}
use Rattle.std.specs.Int.{w64, int_wrapping_sub}
use Rattle.std.specs.Str.{bytes_eq}
use Rattle.serde_json.specs.Data.{Data, null, boolean, number, string, array, object, Items, no_items, item, Members, no_members, member, put}
use Rattle.serde_json.specs.Find.{get, get_member, of_integer, as_object}
use Rattle.json_members.specs.Members.{put_some}
use Rattle.infinite_maps.specs.declared.plane.Plane.{Plane}
use Rattle.infinite_maps.specs.declared.part.Part.{Part}
use Rattle.infinite_maps.specs.declared.part.Part.TheVariants.{Layers, Objects, Across, Down, Rest}
use Rattle.infinite_maps.specs.declared.survey.Extent.{Extent}
use Rattle.infinite_maps.specs.declared.fault.Fault.{Fault}
use Rattle.infinite_maps.specs.declared.fault.Fault.TheVariants.{Memory, BadChunk, Overlap, TooLarge, Unlike}
use Rattle.infinite_maps.specs.Notes.{mark}
use Rattle.infinite_maps.specs.Infinite.{below, moved, infinite_of, is_infinite}
use Rattle.infinite_maps.specs.Sound.{is_bad, are_sound, some_layer, items_some_layer, members_some_layer, has_bad_chunk}
use Rattle.infinite_maps.specs.Overlaps.{is_overlapping, have_overlap, has_overlap}
use Rattle.infinite_maps.specs.Survey.{survey_of, box_of, plane_of, is_too_large}
use Rattle.infinite_maps.specs.Pasted.{layer_with}

abbrev pub is_layers : Part → Bool
is_layers Layers = true
is_layers Objects = false
is_layers Across = false
is_layers Down = false
is_layers Rest = false

-- objects are moved the other way
abbrev pub turned : Plane → Plane
turned p = record p { moved_x = int_wrapping_sub w64 (pos 0) p.moved_x; moved_y = int_wrapping_sub w64 (pos 0) p.moved_y }

-- chunks are pasted, and not copied
abbrev pub is_kept : Part → List ℕ → Bool
is_kept part k = not (is_layers part && bytes_eq k (codes "chunks"))

-- a layer, whose other members were seen to
abbrev pub own_finite : Plane → Part → Members → Members → Members
own_finite p part ms all = if is_layers part then layer_with p ms all (get_member (codes "chunks") ms) else all

-- a tree whose layers have cells in place of chunks, and whose objects are moved
abbrev mutual
  pub finite : Plane → Part → Data → Data
  finite p part null = null
  finite p part (boolean b) = boolean b
  finite p part (number n) = moved (turned p) part n
  finite p part (string s) = string s
  finite p part (array ds) = array (items_finite p part ds)
  finite p part (object ms) = object (own_finite p part ms (members_finite p part ms))

  pub items_finite : Plane → Part → Items → Items
  items_finite p part no_items = no_items
  items_finite p part (item d ds) = item (finite p part d) (items_finite p part ds)

  pub members_finite : Plane → Part → Members → Members
  members_finite p part no_members = no_members
  members_finite p part (member k d ms) = if is_kept part k then member k (finite p (below part k) d) (members_finite p part ms) else members_finite p part ms

-- whole numbers put in
abbrev pub with_whole : List ℕ → ℤ → Members → Members
with_whole name z ms = put name (number (of_integer z)) ms

-- what is noted of a map: where it lies, and its blocks; then what its first blocks lost, the limit, and how far objects are moved
abbrev pub with_place : Plane → Members → Members
with_place p ms =
    with_whole (codes "chunkheight") (pos p.down) (
    with_whole (codes "chunkwidth") (pos p.across) (
    with_whole (codes "y") p.y (
    with_whole (codes "x") p.x ms)))

abbrev pub with_limits : Plane → Members → Members
with_limits p ms =
    with_whole (codes "movedy") p.moved_y (
    with_whole (codes "movedx") p.moved_x (
    with_whole (codes "most") (pos p.most) (
    with_whole (codes "losty") (pos p.lost_y) (
    with_whole (codes "lostx") (pos p.lost_x) ms))))

abbrev pub map_note : Data → Plane → Data
map_note d p = object (put (codes "infinite") (object (
    put_some (codes "height") (get (codes "height") d) (
    put_some (codes "width") (get (codes "width") d) (with_limits p (with_place p no_members))))) no_members)

-- the members of a finite map of so many columns and rows
abbrev pub with_note : Data → Plane → ℤ → ℤ → Members → Members
with_note d p columns rows ms =
    put (codes "infinite") (boolean false) (
    with_whole (codes "height") rows (
    with_whole (codes "width") columns (
    put mark (map_note d p) ms)))

-- where a map lies of which only the sizes are told
abbrev pub corner_of : Extent → Plane
corner_of a = record {
  x = a.left;
  y = a.top;
  columns = 0;
  rows = 0;
  across = 0;
  down = 0;
  lost_x = 0;
  lost_y = 0;
  most = 0;
  moved_x = pos 0;
  moved_y = pos 0;
}

-- a map above the limits keeps its layers, and gets its sizes
abbrev pub sized : Data → Members → Extent → Members
sized d ms a = with_note d (corner_of a) (int_wrapping_sub w64 a.right a.left) (int_wrapping_sub w64 a.bottom a.top) ms

abbrev pub finite_on : Data → Members → Plane → Members
finite_on d ms p = with_note d p (pos p.columns) (pos p.rows) (own_finite p Layers ms (members_finite p Layers ms))

abbrev pub map_on : Data → Members → Extent → Option Plane → Members
map_on d ms a None = sized d ms a
map_on d ms a (Some p) = finite_on d ms p

-- the finite map, in which an edit would be made
abbrev pub finite_of : Data → Data
finite_of null = null
finite_of (boolean b) = boolean b
finite_of (number n) = number n
finite_of (string s) = string s
finite_of (array ds) = array ds
finite_of (object ms) = object (map_on (object ms) ms (box_of (survey_of ms).around)
    (plane_of (object ms) (box_of (survey_of ms).around) (survey_of ms).layers))

-- the finite map does not lead back
abbrev pub IsUnlike : Data → Type 0
IsUnlike d = infinite_of (finite_of d) ≢ Some d

-- ---- for private clauses
abbrev pub is_memory : Fault → Bool
is_memory Memory = true
is_memory BadChunk = false
is_memory Overlap = false
is_memory TooLarge = false
is_memory Unlike = false

-- what a fault says of one layer
abbrev pub is_at_fault : Fault → Members → Bool
is_at_fault Memory ms = false
is_at_fault BadChunk ms = is_bad ms
is_at_fault Overlap ms = is_overlapping ms
is_at_fault TooLarge ms = false
is_at_fault Unlike ms = false

abbrev pub is_blamed : Fault → Part → Data → Bool
is_blamed f part d = is_memory f || (is_layers part && some_layer (is_at_fault f) d)

abbrev pub are_blamed : Fault → Part → Items → Bool
are_blamed f part ds = is_memory f || (is_layers part && items_some_layer (is_at_fault f) ds)

abbrev pub members_blamed : Fault → Part → Members → Bool
members_blamed f part ms = is_memory f || (is_layers part && members_some_layer (is_at_fault f) ms)

-- a chunk, or a list of them, is blamed only if it is not sound
abbrev pub BadHere : Fault → Bool → Type 0
BadHere Memory sound = Unit {0}
BadHere BadChunk sound = sound ≡ false
BadHere Overlap sound = ⊥
BadHere TooLarge sound = ⊥
BadHere Unlike sound = ⊥

abbrev pub FaultHere : Fault → Bool → Items → Type 0
FaultHere Memory text cs = Unit {0}
FaultHere BadChunk text cs = are_sound false text cs ≡ false
FaultHere Overlap text cs = have_overlap cs ≡ true
FaultHere TooLarge text cs = ⊥
FaultHere Unlike text cs = ⊥

abbrev pub own_blamed : Fault → Part → Members → Bool
own_blamed f part ms = is_memory f || (is_layers part && is_at_fault f ms)

-- a member put in
abbrev pub with_member : Plane → Part → List ℕ → Data → Members → Members
with_member p part k d ms = if is_kept part k then put k (finite p (below part k) d) ms else ms

-- the first map is finite and leads back to the second
abbrev pub LeadsBack : Data → Data → Type 0
LeadsBack f d = (is_infinite f ≡ false) × (infinite_of f ≡ Some d)

-- what holds of a tree of which no finite one is made
abbrev pub IsNotMade : Fault → Data → Type 0
IsNotMade Memory d = Unit {0}
IsNotMade BadChunk d = has_bad_chunk d ≡ true
IsNotMade Overlap d = has_overlap d ≡ true
IsNotMade TooLarge d = is_too_large d ≡ true
IsNotMade Unlike d = as_object d ≡ None
