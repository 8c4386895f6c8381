-- When two trees are the same map: if they are one tree once what Tiled takes as said is left out of both.
use Rattle.std.specs.Prelude.{ℕ, ℤ, pos, negsuc, List, [], ◌∷◌, ◌==◌, ◌&&◌, ◌||◌, Bool, true, false, not, codes, length, take, drop, slice_index, ◌≡◌}
use Rattle.std.specs.Prelude.{Float, Option, Some, None, unwrap_or, is_some, if◌then◌else◌}
use Rattle.std.specs.Ordering.{int_eq}
use Rattle.std.specs.Str.{bytes_eq}
use Rattle.std.specs.Float.{binary64}
use Rattle.std.specs.Float.Ieee.{of_int, eq}
use Rattle.serde_json.specs.Data.{Num, float, Data, null, boolean, number, string, array, object, Items, no_items, item, Members, no_members, member}
use Rattle.serde_json.specs.Find.{get_member, as_str, to_float}
use Rattle.tmx_tree.specs.Texts.{is_one_of}
use Rattle.tmx_maps.specs.declared.place.Place.{Place}
use Rattle.tmx_maps.specs.declared.place.Place.TheVariants.{Thing, Straight, Staggered, Chunked, Image, Instance, Property, Color, NoColor, Words, Value}

-- ---- what an object is, by its members
-- a text; of anything else none
abbrev pub text_of : Data → List ℕ
text_of d = unwrap_or (as_str d) []

abbrev pub text_at : Option Data → List ℕ
text_at None = []
text_at (Some d) = text_of d

abbrev pub text_in : List ℕ → Members → List ℕ
text_in k ms = text_at (get_member k ms)

abbrev pub has : List ℕ → Members → Bool
has k ms = is_some (get_member k ms)

abbrev pub map_place : Members → Place
map_place ms =
    if bytes_eq (text_in (codes "orientation") ms) (codes "hexagonal") then Thing
    else (if bytes_eq (text_in (codes "orientation") ms) (codes "staggered") then Staggered else Straight)

abbrev pub property_place : Members → Place
property_place ms =
    if not (bytes_eq (text_in (codes "type") ms) (codes "color")) then Property
    else (if bytes_eq (text_in (codes "value") ms) [] then NoColor else Color)

abbrev pub layer_place : Members → Place
layer_place ms =
    if bytes_eq (text_in (codes "type") ms) (codes "map") then map_place ms
    else (if bytes_eq (text_in (codes "type") ms) (codes "imagelayer") then Image
    else (if has (codes "chunks") ms then Chunked else Thing))

abbrev pub own_place : Members → Place
own_place ms =
    if has (codes "value") ms then property_place ms
    else (if has (codes "template") ms then Instance else layer_place ms)

abbrev pub place_of : Place → Members → Place
place_of Words ms = Words
place_of Value ms = Value
place_of Color ms = Value
place_of Thing ms = own_place ms
place_of Straight ms = own_place ms
place_of Staggered ms = own_place ms
place_of Chunked ms = own_place ms
place_of Image ms = own_place ms
place_of Instance ms = own_place ms
place_of Property ms = own_place ms
place_of NoColor ms = own_place ms

abbrev pub value_place : Place → Place
value_place Color = Color
value_place Thing = Value
value_place Straight = Value
value_place Staggered = Value
value_place Chunked = Value
value_place Image = Value
value_place Instance = Value
value_place Property = Value
value_place NoColor = Value
value_place Words = Value
value_place Value = Value

abbrev pub words_or_thing : List ℕ → Place
words_or_thing k = if bytes_eq k (codes "text") then Words else Thing

abbrev pub value_or_thing : Place → List ℕ → Place
value_or_thing p k = if bytes_eq k (codes "value") then value_place p else Thing

-- where a member of this name stands
abbrev pub inner_place : Place → List ℕ → Place
inner_place Value k = Value
inner_place Property k = value_or_thing Property k
inner_place Color k = value_or_thing Color k
inner_place NoColor k = value_or_thing NoColor k
inner_place Thing k = words_or_thing k
inner_place Straight k = words_or_thing k
inner_place Staggered k = words_or_thing k
inner_place Chunked k = words_or_thing k
inner_place Image k = words_or_thing k
inner_place Instance k = words_or_thing k
inner_place Words k = words_or_thing k

-- ---- what Tiled takes where a member is absent
abbrev pub zero_names : List (List ℕ)
zero_names =
    codes "x" ∷ codes "y" ∷ codes "width" ∷ codes "height" ∷ codes "rotation" ∷ codes "gid" ∷ codes "offsetx" ∷ codes "offsety"
    ∷ codes "parallaxoriginx" ∷ codes "parallaxoriginy" ∷ codes "hexsidelength" ∷ codes "spacing" ∷ codes "margin" ∷ []

abbrev pub one_names : List (List ℕ)
one_names = codes "opacity" ∷ codes "parallaxx" ∷ codes "parallaxy" ∷ codes "probability" ∷ []

abbrev pub true_names : List (List ℕ)
true_names = codes "visible" ∷ codes "kerning" ∷ []

abbrev pub false_names : List (List ℕ)
false_names =
    codes "infinite" ∷ codes "locked" ∷ codes "repeatx" ∷ codes "repeaty" ∷ codes "ellipse" ∷ codes "point" ∷ codes "capsule"
    ∷ codes "wrap" ∷ codes "bold" ∷ codes "italic" ∷ codes "underline" ∷ codes "strikeout" ∷ []

-- a name and a text
abbrev pub Pair : Type 0
Pair = List ℕ × List ℕ

abbrev pub usual_texts : List Pair
usual_texts =
    (codes "name", []) ∷ (codes "type", []) ∷ (codes "class", []) ∷ (codes "propertytype", []) ∷ (codes "compression", []) ∷ (codes "color", [])
    ∷ (codes "tintcolor", []) ∷ (codes "backgroundcolor", []) ∷ (codes "transparentcolor", []) ∷ (codes "image", []) ∷ (codes "mode", [])
    ∷ (codes "text", []) ∷ (codes "renderorder", codes "right-down") ∷ (codes "draworder", codes "topdown") ∷ (codes "staggeraxis", codes "y")
    ∷ (codes "staggerindex", codes "odd") ∷ (codes "encoding", codes "csv") ∷ (codes "objectalignment", codes "unspecified") ∷ []

-- of the text of an object
abbrev pub usual_words : List Pair
usual_words =
    (codes "fontfamily", []) ∷ (codes "fontfamily", codes "sans-serif") ∷ (codes "color", codes "#000000") ∷ (codes "color", codes "#ff000000")
    ∷ (codes "halign", codes "left") ∷ (codes "valign", codes "top") ∷ []

abbrev pub is_pair_of : List Pair → List ℕ → List ℕ → Bool
is_pair_of [] k s = false
is_pair_of (p ∷ ps) k s = (bytes_eq k p.0 && bytes_eq s p.1) || is_pair_of ps k s

-- a number as a float with its name
abbrev pub is_float_of : ℤ → Float → Bool
is_float_of z x = eq (of_int binary64 z) x

abbrev pub is_usual_float : List ℕ → Float → Bool
is_usual_float k x =
    (is_float_of (pos 0) x && is_one_of zero_names k)
    || ((is_float_of (pos 1) x && is_one_of one_names k) || (is_float_of (negsuc 0) x && bytes_eq k (codes "compressionlevel")))

abbrev pub has_no_items : Items → Bool
has_no_items no_items = true
has_no_items (item d ds) = false

-- what a thing has in a member that is absent
abbrev pub is_usual : List ℕ → Data → Bool
is_usual k null = false
is_usual k (boolean b) = if b then is_one_of true_names k else is_one_of false_names k
is_usual k (number n) = is_usual_float k (to_float n)
is_usual k (string s) = is_pair_of usual_texts k s
is_usual k (array ds) = has_no_items ds && is_one_of (codes "properties" ∷ codes "tiles" ∷ codes "wangsets" ∷ []) k
is_usual k (object ms) = false

abbrev pub is_usual_word : List ℕ → Data → Bool
is_usual_word k null = false
is_usual_word k (boolean b) = false
is_usual_word k (number n) = bytes_eq k (codes "pixelsize") && is_float_of (pos 16) (to_float n)
is_usual_word k (string s) = is_pair_of usual_words k s
is_usual_word k (array ds) = false
is_usual_word k (object ms) = false

-- what no map is told by: what is noted of its XML, and the version, which the editor sets
abbrev pub is_note : List ℕ → Bool
is_note k = is_one_of (codes "roskevad_tmx" ∷ codes "version" ∷ []) k

-- ---- whether a member is left out
-- an object of a template has what that has, where it says nothing itself
abbrev pub is_own : List ℕ → Bool
is_own k = is_one_of (codes "rotation" ∷ codes "visible" ∷ codes "width" ∷ codes "height" ∷ []) k

abbrev pub is_left_here : Place → List ℕ → Data → Bool
is_left_here Thing k d = is_usual k d
is_left_here Straight k d = is_one_of (codes "hexsidelength" ∷ codes "staggeraxis" ∷ codes "staggerindex" ∷ []) k || is_usual k d
is_left_here Staggered k d = bytes_eq k (codes "hexsidelength") || is_usual k d
is_left_here Chunked k d = is_one_of (codes "startx" ∷ codes "starty" ∷ codes "width" ∷ codes "height" ∷ []) k || is_usual k d
is_left_here Image k d = is_one_of (codes "imagewidth" ∷ codes "imageheight" ∷ []) k || is_usual k d
is_left_here Instance k d = not (is_own k) && is_usual k d
is_left_here Property k d = (bytes_eq k (codes "type") && bytes_eq (text_of d) (codes "string")) || is_usual k d
is_left_here Color k d = is_usual k d
is_left_here NoColor k d = bytes_eq k (codes "type") || is_usual k d
is_left_here Words k d = is_usual_word k d || is_usual k d
is_left_here Value k d = false

abbrev pub is_value : Place → Bool
is_value Value = true
is_value Thing = false
is_value Straight = false
is_value Staggered = false
is_value Chunked = false
is_value Image = false
is_value Instance = false
is_value Property = false
is_value Color = false
is_value NoColor = false
is_value Words = false

abbrev pub is_left_out : Place → List ℕ → Data → Bool
is_left_out p k d = not (is_value p) && (is_note k || is_left_here p k d)

-- ---- the tree without what is left out
-- all numbers are floats, as Tiled reads them; no zero has a sign
abbrev pub plain_float : Float → Float
plain_float x = if is_float_of (pos 0) x then of_int binary64 (pos 0) else x

abbrev pub plain_number : Num → Num
plain_number n = float (plain_float (to_float n))

-- a color without the `ff` of one that is not transparent, and without its hash
abbrev pub color_digits : List ℕ → List ℕ
color_digits s =
    if (length s == 9) && bytes_eq (take 3 s) (codes "#ff") then drop 3 s
    else (if slice_index s 0 == 35 then drop 1 s else s)

abbrev pub plain_text : Place → List ℕ → List ℕ
plain_text Color s = color_digits s
plain_text Thing s = s
plain_text Straight s = s
plain_text Staggered s = s
plain_text Chunked s = s
plain_text Image s = s
plain_text Instance s = s
plain_text Property s = s
plain_text NoColor s = s
plain_text Words s = s
plain_text Value s = s

abbrev mutual
  pub plain : Place → Data → Data
  plain p null = null
  plain p (boolean b) = boolean b
  plain p (number n) = number (plain_number n)
  plain p (string s) = string (plain_text p s)
  plain p (array ds) = array (plain_items p ds)
  plain p (object ms) = object (plain_members (place_of p ms) ms)

  pub plain_items : Place → Items → Items
  plain_items p no_items = no_items
  plain_items p (item d ds) = item (plain p d) (plain_items p ds)

  pub plain_members : Place → Members → Members
  plain_members p no_members = no_members
  plain_members p (member k d ms) =
      if is_left_out p k d then plain_members p ms else member k (plain (inner_place p k) d) (plain_members p ms)

-- two trees are the same map
abbrev pub IsSameMap : Data → Data → Type 0
IsSameMap d e = plain Thing d ≡ plain Thing e
