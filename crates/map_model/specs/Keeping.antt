-- What of a file the editor keeps and does not interpret: members, and values of properties.
--
-- The tree that is written for a map nests at most 127 deep. The map's object is its first tier. Each array of layers,
-- objects, tilesets or properties takes one tier more, and each object in it another. What is kept in an object may
-- nest as deep as the tiers below that object allow.
use Rattle.std.specs.Prelude.{◌≡◌, ℕ, ◌+◌, ◌*◌, ◌≤◌, List, None, false}
use Rattle.serde_json.specs.Data.{Data, null, boolean, number, string, array, object, Members, depth, members_depth}
use Rattle.serde_json.specs.Find.{get_member, as_i64}
use Rattle.serde_json.specs.Written.{has_float, members_have_float}
use Rattle.map_model.specs.declared.limits.TheConstants.{MAX_DEPTH, MAX_GROUPS}
use Rattle.map_model.specs.Lists.{Each}
use Rattle.map_model.specs.Readable.{IsReadable, AreReadableMembers}

-- ---- how deep the object of an owner stands
abbrev pub map_tier : ℕ
map_tier = 1

-- a layer that stands in no group
abbrev pub layer_tier : ℕ
layer_tier = map_tier + 2

-- a layer that stands in a group at this tier
abbrev pub inner_tier : ℕ → ℕ
inner_tier group = group + 2

-- a layer that stands in as many groups as may stand in one another, and is no group itself
abbrev pub deepest_tier : ℕ
deepest_tier = layer_tier + 2 * MAX_GROUPS

-- an object of a layer at this tier
abbrev pub object_tier : ℕ → ℕ
object_tier layer = layer + 2

abbrev pub tileset_tier : ℕ
tileset_tier = map_tier + 2

-- a property of an owner at this tier
abbrev pub property_tier : ℕ → ℕ
property_tier tier = tier + 2

-- ---- kept members and values
-- members that an owner at this tier keeps: they have none of its names, each number is whole, no value is too deep, and a
-- file can say them
pub record AreKept (tier : ℕ) (names : List (List ℕ)) (ms : Members) : Type 0 where
  pub unread : Each (λ name. get_member name ms ≡ None) names
  pub whole : members_have_float ms ≡ false
  pub shallow : tier + members_depth ms ≤ MAX_DEPTH
  pub readable : AreReadableMembers ms

-- a value that is no text, no truth value and no whole number from -2^63 to 2^63 - 1
abbrev pub IsOfAnotherKind : Data → Type 0
IsOfAnotherKind null = Unit {0}
IsOfAnotherKind (boolean b) = ⊥
IsOfAnotherKind (number n) = as_i64 n ≡ None
IsOfAnotherKind (string s) = ⊥
IsOfAnotherKind (array ds) = Unit {0}
IsOfAnotherKind (object ms) = Unit {0}

-- a value that a property at this tier keeps as it is
pub record IsKeptValue (tier : ℕ) (d : Data) : Type 0 where
  pub kind : IsOfAnotherKind d
  pub whole : has_float d ≡ false
  pub shallow : tier + depth d ≤ MAX_DEPTH
  pub readable : IsReadable d
