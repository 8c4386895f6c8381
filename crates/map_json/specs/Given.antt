-- A whole thing that a JSON text of a line says, as a file has it: an object, a layer, a tileset, a property or a text.
use Rattle.std.specs.Prelude.{ℕ, ◌==◌, ◌++◌, ◌&&◌, List, [], ◌∷◌, Bool, is_some, if◌then◌else◌, Result, Ok}
use Rattle.std.specs.List.{flat_map, list_all}
use Rattle.std.specs.Option.{ok_or}
use Rattle.serde_json.specs.Data.{Data, Members, object, put}
use Rattle.serde_json.specs.Find.{as_object, as_str, get_member}
use Rattle.fractions.specs.declared.lines.Fractions.{Fractions}
use Rattle.fractions.specs.declared.lines.Fractions.TheVariants.{Refused, SetAside}
use Rattle.fractions.specs.declared.place.Place.TheVariants as places
use Rattle.fractions.specs.Lines.{moved_aside, unmoved}
use Rattle.map_model.specs.declared.names.TheConstants.{ID}
use Rattle.map_model.specs.declared.parts.Layer.{Layer}
use Rattle.map_model.specs.declared.parts.MapParts.{MapParts}
use Rattle.map_model.specs.declared.parts.Property.{Property}
use Rattle.map_model.specs.declared.parts.Tileset.{Tileset}
use Rattle.map_model.specs.Groups.{all_drawn}
use Rattle.map_model.specs.NewLayers.{own_layer_ids, own_object_ids}
use Rattle.map_model.specs.Refusing.{◌>>=◌, ◌>>◌, check}
use Rattle.map_model.specs.WellFormed.{layer_ids, object_ids}
use Rattle.refusals.specs.declared.map_refusal.MapRefusal.{MapRefusal}
use Rattle.refusals.specs.declared.map_refusal.MapRefusal.TheVariants.{IdUsedTwice, MemberOfAnotherKind}
use Rattle.map_values.specs.Arrays.{whole_tree}
use Rattle.map_json.specs.declared.given.GivenObject.{GivenObject}
use Rattle.map_json.specs.Distinctness.{are_distinct, are_named_apart, lists_of_drawn}
use Rattle.map_json.specs.Moves.{moved_in}
use Rattle.map_json.specs.Reading.{lone_layer_at, object_at, property_at, tileset_at}
use Rattle.map_json.specs.Words.{members_at, word_at}

-- the members, with the id 1 where they say none
abbrev pub with_id : Members → Members
with_id ms = if is_some (get_member ID.now ms) then ms else put ID.now (whole_tree 1) ms

-- the object of a map that a text says, and whether the text says its id; no name stands twice among its properties
unfoldable pub given_object_at : Fractions → MapParts → List ℕ → Result GivenObject MapRefusal
given_object_at fractions m text = do
  ms ← members_at fractions places.Object (moved_in fractions m) text
  o ← object_at (object (with_id ms))
  check (are_named_apart o.properties) IdUsedTwice
  Ok (record { object = o; has_id = is_some (get_member ID.now ms) })

-- the tileset that a text says
unfoldable pub given_tileset_at : Fractions → List ℕ → Result Tileset MapRefusal
given_tileset_at fractions text = do
  ms ← members_at fractions places.Elsewhere unmoved text
  tileset_at (object ms)

-- the property that a text says
unfoldable pub given_property_at : Fractions → List ℕ → Result Property MapRefusal
given_property_at fractions text = do
  ms ← members_at fractions places.Elsewhere unmoved text
  property_at (object ms)

-- the text that a JSON text says
unfoldable pub given_text_at : Fractions → List ℕ → Result (List ℕ) MapRefusal
given_text_at fractions text = do
  d ← word_at fractions places.Elsewhere text
  ok_or (as_str d) MemberOfAnotherKind

-- a layer that a line says of a map, as the map has it
abbrev pub layer_said : Fractions → MapParts → Data → Data
layer_said Refused m d = d
layer_said SetAside m d = moved_aside (moved_in SetAside m) places.Layer d

abbrev pub layer_tree_at : Fractions → MapParts → List ℕ → Result Data MapRefusal
layer_tree_at fractions m text = do
  d ← word_at fractions places.Layer text
  check (is_some (as_object d)) MemberOfAnotherKind
  Ok (layer_said fractions m d)

-- no id stands twice in a layer and in a map, nor a name within one owner in that layer
abbrev pub is_new_layer : MapParts → Layer → Bool
is_new_layer m l =
    are_distinct (λ a b. a == b) (own_layer_ids l ++ layer_ids m.layers)
    && are_distinct (λ a b. a == b) (own_object_ids l ++ object_ids m.layers)
    && list_all are_named_apart (flat_map lists_of_drawn (all_drawn (l ∷ [])))

abbrev pub new_layer_at : MapParts → Layer → Result Layer MapRefusal
new_layer_at m l = do
  check (is_new_layer m l) IdUsedTwice
  Ok l

-- the layer of a map that a text says, with those that stand in it
unfoldable pub given_layer_at : Fractions → MapParts → List ℕ → Result Layer MapRefusal
given_layer_at fractions m text = do
  d ← layer_tree_at fractions m text
  l ← lone_layer_at m.width m.height d
  new_layer_at m l
