-- Where in a map's tree a value stands.
use Rattle.std.specs.Prelude.{ℕ, List, codes, Bool, true, false, ◌||◌, if◌then◌else◌}
use Rattle.std.specs.Str.{bytes_eq}
use Rattle.fractions.specs.declared.place.Place.{Place}
use Rattle.fractions.specs.declared.place.Place.TheVariants.{Map, Layer, Object, Coordinate, Version, Elsewhere}

-- the names of an object's place and size
abbrev pub is_coordinate : List ℕ → Bool
is_coordinate k = bytes_eq k (codes "x") || bytes_eq k (codes "y") || bytes_eq k (codes "width") || bytes_eq k (codes "height")

-- a layer has layers or objects in it
abbrev pub below_layer : List ℕ → Place
below_layer k = if bytes_eq k (codes "layers") then Layer else (if bytes_eq k (codes "objects") then Object else Elsewhere)

-- the place of a member of this name
abbrev pub below : Place → List ℕ → Place
below Map k = if bytes_eq k (codes "version") then Version else below_layer k
below Layer k = below_layer k
below Object k = if is_coordinate k then Coordinate else Elsewhere
below Coordinate k = Elsewhere
below Version k = Elsewhere
below Elsewhere k = Elsewhere

-- the place of an array's elements
abbrev pub inside : Place → Place
inside Map = Elsewhere
inside Layer = Layer
inside Object = Object
inside Coordinate = Elsewhere
inside Version = Elsewhere
inside Elsewhere = Elsewhere

-- whether it is neither the root nor its version, which alone may be a fraction
abbrev pub is_inner : Place → Bool
is_inner Map = false
is_inner Layer = true
is_inner Object = true
is_inner Coordinate = true
is_inner Version = false
is_inner Elsewhere = true
