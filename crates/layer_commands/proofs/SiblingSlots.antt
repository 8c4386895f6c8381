-- The layers of a parent, as a part of a document and as a slot.
use Rattle.std.proofs.Common.{◌≡◌, ℕ, List, Option, Some, None, IsSomeAnd, option_and_then, refl, ap, ◌∙◌}
use Rattle.std.specs.List.{insert, remove, slice_get}
use Rattle.map_model.specs.declared.parts.Layer.{Layer}
use Rattle.map_model.specs.declared.place.LayerPlace.{LayerPlace}
use Rattle.map_model.specs.Document.{DocumentParts, with_map}
use Rattle.map_model.specs.Layers.{layer_at, siblings_of, with_layer_at, with_siblings, without_layer_at}
use Rattle.map_model.specs.Lens.{siblings}
use Rattle.map_model.specs.Slot.{layer_slot}

pub siblings-get : (parent : Option ℕ) (d : DocumentParts) → siblings_of d.map parent ≡ (siblings parent).get d
siblings-get None d = refl
siblings-get (Some id) d = refl

pub siblings-with : (parent : Option ℕ) (f : List Layer → List Layer) (d : DocumentParts) → with_map (with_siblings parent f) d ≡ (siblings parent).update f d
siblings-with None f d = refl
siblings-with (Some id) f d = refl

pub siblings-two : (parent : Option ℕ) (f g : List Layer → List Layer) (d : DocumentParts)
    → with_map (λ m. with_siblings parent f (with_siblings parent g m)) d ≡ (siblings parent).update f ((siblings parent).update g d)
siblings-two None f g d = refl
siblings-two (Some id) f g d = refl

-- ---- the place of a layer
pub slot-item : (place : LayerPlace) (d : DocumentParts) → layer_at d.map place ≡ (layer_slot place).item d
slot-item place d = ap (option_and_then (λ ls. slice_get ls place.at)) (siblings-get place.parent d)

pub slot-without : (place : LayerPlace) (d : DocumentParts) → with_map (without_layer_at place) d ≡ (layer_slot place).without_item d
slot-without place d = siblings-with place.parent (λ ls. remove ls place.at) d

pub slot-with : (place : LayerPlace) (l : Layer) (d : DocumentParts) → with_map (with_layer_at place l) d ≡ (layer_slot place).with_item l d
slot-with place l d = siblings-with place.parent (λ ls. insert ls place.at l) d

pub slot-given : (place : LayerPlace) (o : Option Layer) (d e : DocumentParts) → IsSomeAnd o (λ l. e ≡ with_map (with_layer_at place l) d)
    → IsSomeAnd o (λ l. e ≡ (layer_slot place).with_item l d)
slot-given place None d e h = h
slot-given place (Some l) d e h = h ∙ slot-with place l d
