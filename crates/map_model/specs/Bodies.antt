-- What a layer's body holds beside layers: the values of a tile layer, and the objects of an object layer.
use Rattle.std.specs.Prelude.{ℕ, List, Option, Some, None, IsSomeAnd, option_and_then, slice_get}
use Rattle.map_model.specs.declared.parts.Body.{Body}
use Rattle.map_model.specs.declared.parts.Body.TheVariants.{Tiles, Objects}
use Rattle.map_model.specs.declared.parts.Object.{Object}
use Rattle.map_model.specs.Lists.{or_empty}

-- ---- either, where it is there
-- the values of a tile layer; another layer has no list of them
abbrev pub tiles_or_none : Body → Option (List ℕ)
tiles_or_none (Tiles e cells) = Some cells
tiles_or_none b = None

-- the objects of an object layer; another layer has no list of them
abbrev pub objects_in : Body → Option (List Object)
objects_in (Objects os) = Some os
objects_in b = None

-- ---- either changed
-- a tile layer with f of its values, an object layer with g of its objects; another layer as it is
abbrev pub body_with_contents : (List ℕ → List ℕ) → (List Object → List Object) → Body → Body
body_with_contents f g (Tiles e cells) = Tiles e (f cells)
body_with_contents f g (Objects os) = Objects (g os)
body_with_contents f g b = b

-- a tile layer with f of its values; another layer as it is
abbrev pub body_with_tiles : (List ℕ → List ℕ) → Body → Body
body_with_tiles f = body_with_contents f (λ os. os)

-- an object layer with g of its objects; another layer as it is
abbrev pub body_with_objects : (List Object → List Object) → Body → Body
body_with_objects g = body_with_contents (λ cells. cells) g

-- ---- the values of a tile layer
-- the body is that of a tile layer
abbrev pub IsTiles : Body → Type 0
IsTiles b = IsSomeAnd (tiles_or_none b) (λ cells. Unit {0})

-- the values of a tile layer; none for another one
abbrev pub tiles_of : Body → List ℕ
tiles_of b = or_empty (tiles_or_none b)

-- the value of the cell of a tile layer with a number
abbrev pub tile_at : Body → ℕ → Option ℕ
tile_at b number = option_and_then (λ cells. slice_get cells number) (tiles_or_none b)
