-- What needs nothing set aside.
use Rattle.std.specs.Prelude.{◌≡◌, ℕ, List, false, Some}
use Rattle.serde_json.specs.Data.{Data}
use Rattle.serde_json.specs.Read.{read}
use Rattle.infinite_maps.specs.Infinite.{is_infinite}
use Rattle.fractions.specs.declared.place.Place.TheVariants.{Map}
use Rattle.json_trees.specs.Names.{has_name}
use Rattle.fractions.specs.Fractions.{has_fraction}
use Rattle.fractions.specs.Aside.{reserved_name}
use Rattle.tiled_maps.specs.Packed.{note_name, has_packed}

-- a tree that has no fraction, no member of the names of notes and no packed layer, and that is no infinite map
pub record NeedsNothing (d : Data) : Type 0 where
  pub whole : has_fraction Map d ≡ false
  pub free : has_name reserved_name d ≡ false
  pub unpacked : has_packed d ≡ false
  pub unnoted : has_name note_name d ≡ false
  pub finite : is_infinite d ≡ false

-- the tree of the bytes is such a tree, if they have one
abbrev pub TextNeedsNothing : List ℕ → Type 0
TextNeedsNothing bytes = (d : Data) → read bytes ≡ Some d → NeedsNothing d
