-- Members that a line says: put among an owner's with their fractions set aside, or taken out with the note of a fraction.
use Rattle.std.specs.Prelude.{ℕ, ℤ, pos, List, codes, Bool, true, false, ◌||◌, Float, Option, option_map, option_and_then, if◌then◌else◌, unwrap_or}
use Rattle.std.specs.Float.{binary64}
use Rattle.std.specs.Float.Ieee.{add, of_int}
use Rattle.std.specs.Ordering.{int_eq}
use Rattle.serde_json.specs.Data.{Data, null, boolean, number, string, array, object, Items, no_items, item, Members, no_members, member}
use Rattle.serde_json.specs.Find.{get_member, to_float}
use Rattle.fractions.specs.declared.lines.Fractions.{Fractions}
use Rattle.fractions.specs.declared.lines.Fractions.TheVariants.{Refused, SetAside}
use Rattle.fractions.specs.declared.lines.Moved.{Moved}
use Rattle.fractions.specs.declared.place.Place.{Place}
use Rattle.fractions.specs.declared.place.Place.TheVariants.{Map, Layer, Object, Coordinate, Version, Elsewhere}
use Rattle.json_members.specs.Members.{put_all, put_some, without}
use Rattle.fractions.specs.Places.{below, inside}
use Rattle.fractions.specs.Aside.{reserved_name, stand_in, fraction_at, note_of, number_aside, aside, members_aside, with_notes}
use Rattle.fractions.specs.Back.{notes_in}

-- ---- notes of what a line says
-- an object that is saved where it stands
abbrev pub unmoved : Moved
unmoved = record { x = pos 0; y = pos 0 }

-- a number so many pixels further
abbrev pub further : ℤ → Float → Float
further z x = if int_eq z (pos 0) then x else add binary64 x (of_int binary64 z)

-- the note of a coordinate that is saved so many pixels further, if it is a fraction
abbrev pub further_note : ℤ → List ℕ → Members → Option Data
further_note z k ms = option_map (λ n. stand_in (further z (to_float n))) (option_and_then fraction_at (get_member k ms))

-- the notes of an object's coordinates, where it is saved; nothing else has any
abbrev pub moved_notes : Moved → Place → Members → Members
moved_notes m Map ms = no_members
moved_notes m Layer ms = no_members
moved_notes m Object ms =
    put_some (codes "x") (further_note m.x (codes "x") ms) (put_some (codes "y") (further_note m.y (codes "y") ms)
    (put_some (codes "width") (note_of (codes "width") ms) (put_some (codes "height") (note_of (codes "height") ms) no_members)))
moved_notes m Coordinate ms = no_members
moved_notes m Version ms = no_members
moved_notes m Elsewhere ms = no_members

-- a value at a place, with its fractions set aside, and with the notes of the objects in it where they are saved
abbrev mutual
  pub moved_aside : Moved → Place → Data → Data
  moved_aside m p null = null
  moved_aside m p (boolean b) = boolean b
  moved_aside m p (number n) = number_aside p n
  moved_aside m p (string s) = string s
  moved_aside m p (array ds) = array (items_moved m (inside p) ds)
  moved_aside m p (object ms) = object (with_notes (moved_notes m p ms) (members_moved m p ms))

  pub items_moved : Moved → Place → Items → Items
  items_moved m p no_items = no_items
  items_moved m p (item d ds) = item (moved_aside m p d) (items_moved m p ds)

  pub members_moved : Moved → Place → Members → Members
  members_moved m p no_members = no_members
  members_moved m p (member k d ms) = member k (moved_aside m (below p k) d) (members_moved m p ms)

-- ---- what a line says
-- a value at a place, as the map has it
abbrev pub said : Fractions → Place → Data → Data
said Refused p d = d
said SetAside p d = aside p d

-- the members of an object at a place, as the map has them
abbrev pub members_said : Fractions → Place → Moved → Members → Members
members_said Refused p m ms = ms
members_said SetAside p m ms = with_notes (moved_notes m p ms) (members_aside p ms)

-- ---- notes that an owner has
-- whether an object notes a fraction that stands here
abbrev pub is_noted : Place → Bool
is_noted Map = false
is_noted Layer = false
is_noted Object = false
is_noted Coordinate = true
is_noted Version = false
is_noted Elsewhere = false

-- whether one of these members is such
abbrev pub has_noted : Place → Members → Bool
has_noted p no_members = false
has_noted p (member k d ms) = is_noted (below p k) || has_noted p ms

-- the notes that an owner has
abbrev pub notes_at : Members → Members
notes_at ms = unwrap_or (notes_in ms) no_members

-- an owner's members, with these notes in place of those that it has
abbrev pub with_own_notes : Members → Members → Members
with_own_notes ns ms = with_notes ns (without reserved_name ms)

-- the members but those that others name
abbrev pub without_named : Members → Members → Members
without_named no_members ms = ms
without_named (member k d words) ms = without_named words (without k ms)

-- an owner's members, in whose notes stands what these words ask to be noted; where they name no coordinate, all stays
abbrev pub renoted : Place → Moved → Members → Members → Members
renoted p m words ms = if has_noted p words then with_own_notes (put_all (moved_notes m p words) (without_named words (notes_at ms))) ms else ms

-- an owner's members without the note of one of them
abbrev pub unnoted : Place → List ℕ → Members → Members
unnoted p k ms = if is_noted (below p k) then with_own_notes (without k (notes_at ms)) ms else ms

-- ---- what lines do
-- the members of an owner at a place, with each of these that a line says put in
abbrev pub put_words : Fractions → Place → Moved → Members → Members → Members
put_words Refused p m words ms = put_all words ms
put_words SetAside p m words ms = put_all (members_aside p words) (renoted p m words ms)

-- the members of an owner at a place without the one of this name
abbrev pub remove_word : Fractions → Place → List ℕ → Members → Members
remove_word Refused p k ms = without k ms
remove_word SetAside p k ms = without k (unnoted p k ms)
