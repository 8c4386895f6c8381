-- Why an edit of the cells of a layer is refused.
use Rattle.std.specs.Prelude.{ℕ, List, Bool, ◌||◌, nat_eq, nat_le, Option, is_some, Result}
use Rattle.std.specs.Option.{ok_or}
use Rattle.map_model.specs.declared.parts.Layer.{Layer}
use Rattle.map_model.specs.declared.parts.MapParts.{MapParts}
use Rattle.map_model.specs.Bodies.{tiles_or_none}
use Rattle.map_model.specs.Tilesets.{tileset_of}
use Rattle.tile_id.specs.Gid.{base_of}
use Rattle.refusals.specs.declared.edit_fault.EditFault.{EditFault}
use Rattle.refusals.specs.declared.edit_fault.EditFault.TheVariants.{NoSuchLayer, LayerOfAnotherKind}
use Rattle.map_model.specs.Refusing.{◌>>=◌}

-- the values of a tile layer
abbrev pub tiles_or_fault : Option Layer → Result (List ℕ) EditFault
tiles_or_fault found = do
  l ← ok_or found NoSuchLayer
  ok_or (tiles_or_none l.body) LayerOfAnotherKind

-- a value is 0 or has a tileset
abbrev pub is_known : MapParts → ℕ → Bool
is_known m value = nat_eq value 0 || is_some (tileset_of m value)

-- a value is 0, or its base is not below a first id
abbrev pub is_known_from : ℕ → ℕ → Bool
is_known_from first_id value = nat_eq value 0 || nat_le first_id (base_of value)
