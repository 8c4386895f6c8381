-- The laws of the lenses of heads.
use Rattle.std.proofs.Common.{◌≡◌, ℕ, Some, refl, ◌∙◌}
use Rattle.map_model.specs.declared.heads.ObjectHead.{ObjectHead}
use Rattle.map_model.specs.declared.place.ObjectPlace.{ObjectPlace}
use Rattle.map_model.specs.Document.{DocumentParts, with_map}
use Rattle.map_model.specs.Heads.{head, head_with_id, object_head, object_with_head}
use Rattle.map_model.specs.Heads.{head_of_layer, head_of_map, layer_head, layer_head_with_id, layer_with_head, map_head, map_with_head}
use Rattle.map_model.specs.Heads.{head_of_tileset, tileset_head, tileset_head_with_id, tileset_with_head}
use Rattle.map_model.specs.Lens.{IsLawfulLens, of_object}
use Rattle.map_model.specs.Objects.{object_place}
use Rattle.map_model.proofs.FoundLaws.{found-keeps, found-laws}
use Rattle.map_model.proofs.LensLaws.{of_layer-laws, of_object-laws, of_tileset-laws, whole-laws}
use Rattle.map_model.proofs.StayPut.{object_place-with_object}

-- ---- objects
head-laws : (place : ObjectPlace) → IsLawfulLens (of_object place head)
head-laws place = of_object-laws place head (whole-laws object_head object_with_head (λ v o. refl) (λ o. refl) (λ v w o. refl))

-- no head moves an object to another place
head-stays : (id : ℕ) (place : ObjectPlace) (f : ObjectHead → ObjectHead) (d : DocumentParts) → object_place d.map id ≡ Some place
    → object_place ((of_object place head).update f d).map id ≡ Some place
head-stays id place f d e = object_place-with_object (λ o. object_with_head (f (object_head o)) o) (λ o. refl) place id d.map ∙ e

pub head_with_id-keeps : (id : ℕ) (f : ObjectHead → ObjectHead) (d : DocumentParts) → object_place ((head_with_id id).update f d).map id ≡ object_place d.map id
head_with_id-keeps id = found-keeps (λ d. object_place d.map id) (λ place. of_object place head) (head-stays id)

pub head_with_id-laws : (id : ℕ) → IsLawfulLens (head_with_id id)
head_with_id-laws id = found-laws (λ d. object_place d.map id) (λ place. of_object place head) (head-stays id) head-laws

-- ---- layers
pub layer_head-laws : (id : ℕ) → IsLawfulLens (layer_head_with_id id)
layer_head-laws id = of_layer-laws id head_of_layer (λ f l. refl) (whole-laws layer_head layer_with_head (λ v l. refl) (λ l. refl) (λ v w l. refl))

-- ---- tilesets
pub tileset_head-laws : (first_id : ℕ) → IsLawfulLens (tileset_head_with_id first_id)
tileset_head-laws first_id =
    of_tileset-laws first_id head_of_tileset (λ f t. refl) (whole-laws tileset_head tileset_with_head (λ v t. refl) (λ t. refl) (λ v w t. refl))

-- ---- maps
pub map_head-laws : IsLawfulLens head_of_map
map_head-laws = whole-laws (λ d. map_head d.map) (λ h. with_map (map_with_head h)) (λ v d. refl) (λ d. refl) (λ v w d. refl)
