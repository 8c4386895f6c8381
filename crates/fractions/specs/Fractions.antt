-- Fractions: numbers that are no whole numbers of 64 bits.
use Rattle.std.specs.Prelude.{ℕ, ◌+◌, ◌≤◌, Bool, false, ◌||◌, if◌then◌else◌}
use Rattle.serde_json.specs.Data.{Num, Data, null, boolean, number, string, array, object, Items, no_items, item, Members, no_members, member}
use Rattle.serde_json.specs.Find.{is_float}
use Rattle.fractions.specs.declared.place.Place.{Place}
use Rattle.fractions.specs.declared.place.Place.TheVariants.{Map, Layer, Object, Coordinate, Version, Elsewhere}
use Rattle.fractions.specs.Places.{below, inside}

-- the version of a map may be any number
abbrev pub is_fraction : Place → Num → Bool
is_fraction Map n = is_float n
is_fraction Layer n = is_float n
is_fraction Object n = is_float n
is_fraction Coordinate n = is_float n
is_fraction Version n = false
is_fraction Elsewhere n = is_float n

-- whether a fraction stands anywhere but as that version
abbrev mutual
  pub has_fraction : Place → Data → Bool
  has_fraction p null = false
  has_fraction p (boolean b) = false
  has_fraction p (number n) = is_fraction p n
  has_fraction p (string s) = false
  has_fraction p (array ds) = items_have_fraction (inside p) ds
  has_fraction p (object ms) = members_have_fraction p ms

  pub items_have_fraction : Place → Items → Bool
  items_have_fraction p no_items = false
  items_have_fraction p (item d ds) = has_fraction p d || items_have_fraction p ds

  pub members_have_fraction : Place → Members → Bool
  members_have_fraction p no_members = false
  members_have_fraction p (member k d ms) = has_fraction (below p k) d || members_have_fraction p ms

-- how many there are
abbrev mutual
  pub fractions_in : Place → Data → ℕ
  fractions_in p null = 0
  fractions_in p (boolean b) = 0
  fractions_in p (number n) = if is_fraction p n then 1 else 0
  fractions_in p (string s) = 0
  fractions_in p (array ds) = fractions_in_items (inside p) ds
  fractions_in p (object ms) = fractions_in_members p ms

  pub fractions_in_items : Place → Items → ℕ
  fractions_in_items p no_items = 0
  fractions_in_items p (item d ds) = fractions_in p d + fractions_in_items p ds

  pub fractions_in_members : Place → Members → ℕ
  fractions_in_members p no_members = 0
  fractions_in_members p (member k d ms) = fractions_in (below p k) d + fractions_in_members p ms

-- how many a map may have
abbrev pub most_fractions : ℕ
most_fractions = 200000

-- the tree of a map has no more
abbrev pub HasFewFractions : Data → Type 0
HasFewFractions d = fractions_in Map d ≤ most_fractions
