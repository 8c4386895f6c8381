-- The layers of a map and of its source, and walks over them.
use Rattle.std.specs.Prelude.{ℕ, ◌==◌, List, codes, Bool, false, if◌then◌else◌, Option, Some, None, option_map, option_and_then, is_some}
use Rattle.std.specs.Str.{bytes_eq}
use Rattle.serde_json.specs.Data.{Data, null, boolean, number, string, array, object, Items, no_items, item, Members}
use Rattle.serde_json.specs.Find.{get, get_member, as_number, as_u64, as_str, as_array}
use Rattle.json_members.specs.Members.{without, put_some}

-- whether a tree is that of a map: an object with layers
abbrev pub is_map : Data → Bool
is_map d = is_some (option_and_then as_array (get (codes "layers") d))

-- ---- layers of the source
abbrev pub id_of : Members → Option ℕ
id_of ms = option_and_then as_u64 (option_and_then as_number (get_member (codes "id") ms))

abbrev pub is_id : ℕ → Option ℕ → Bool
is_id id None = false
is_id id (Some n) = n == id

-- the members of a layer, if it has this id
abbrev pub layer_with : ℕ → Data → Option Members
layer_with id null = None
layer_with id (boolean b) = None
layer_with id (number n) = None
layer_with id (string s) = None
layer_with id (array ds) = None
layer_with id (object ms) = if is_id id (id_of ms) then Some ms else None

abbrev pub or_else : Option Members → Option Members → Option Members
or_else None other = other
or_else (Some ms) other = Some ms

-- those of the first layer that has it
abbrev pub layer_among : ℕ → Items → Option Members
layer_among id no_items = None
layer_among id (item d ds) = or_else (layer_with id d) (layer_among id ds)

-- the layers of a map or a group
abbrev pub layers_in : Members → Option Items
layers_in ms = option_and_then as_array (get_member (codes "layers") ms)

-- the layer with the id of another, in a map or a group of the source
abbrev pub layer_like : Option Members → Members → Option Members
layer_like olds ms = option_and_then (λ id. option_and_then (layer_among id) (option_and_then layers_in olds)) (id_of ms)

-- ---- texts
abbrev pub is_text : List ℕ → Option (List ℕ) → Bool
is_text t None = false
is_text t (Some s) = bytes_eq s t

-- whether a member is this text
abbrev pub has_text : List ℕ → List ℕ → Members → Bool
has_text k t ms = is_text t (option_and_then as_str (get_member k ms))

-- ---- a map's layers, those in groups too
abbrev pub object_with : (Members → Members) → Data → Data
object_with f null = null
object_with f (boolean b) = boolean b
object_with f (number n) = number n
object_with f (string s) = string s
object_with f (array ds) = array ds
object_with f (object ms) = object (f ms)

abbrev pub items_with : (Data → Data) → Items → Items
items_with f no_items = no_items
items_with f (item d ds) = item (f d) (items_with f ds)

abbrev pub array_with : (Data → Data) → Data → Data
array_with f null = null
array_with f (boolean b) = boolean b
array_with f (number n) = number n
array_with f (string s) = string s
array_with f (array ds) = array (items_with f ds)
array_with f (object ms) = object ms

-- the members with another value of this name, if there is one
abbrev pub member_with : List ℕ → (Data → Data) → Members → Members
member_with k f ms = put_some k (option_map f (get_member k ms)) (without k ms)

-- how deep groups are looked into
abbrev pub tiers : ℕ
tiers = 17
