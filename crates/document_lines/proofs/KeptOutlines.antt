-- A map whose cells have changed has the same outline.
use Rattle.std.proofs.Common.{◌≡◌, ℕ, zero, suc, List, [], ◌∷◌, Bool, true, false, cond, refl, ap, ◌∙◌}
use Rattle.serde_json.specs.Data.{Data, Items, array, object, no_items, item}
use Rattle.map_model.specs.declared.limits.TheConstants.{MAX_GROUPS}
use Rattle.map_model.specs.declared.parts.Body.{Body}
use Rattle.map_model.specs.declared.parts.Body.TheVariants.{Tiles, Group'}
use Rattle.map_model.specs.declared.parts.Layer.{Layer}
use Rattle.map_model.specs.declared.parts.MapParts.{MapParts}
use Rattle.map_model.specs.Bodies.{body_with_tiles}
use Rattle.map_model.specs.Groups.{body_with_layers, change_among, change_one, has_id, holds, inside, layer_with_layers}
use Rattle.map_model.specs.Lists.{or_empty}
use Rattle.map_model.specs.Lookups.{layer_with_tiles, with_tiles}
use Rattle.map_model.proofs.BodyLaws.{group_in-contents}
use Rattle.map_model.proofs.GroupBodies.{inside-with}
use Rattle.map_model.proofs.Trees.{changed_below, change_one-is}
use Rattle.map_values.specs.Arrays.{array_by, items_by}
use Rattle.map_json.specs.Members.{Own, with_own}
use Rattle.map_json.specs.Outlines.{outline_layer, outline_of, outline_own}
use Rattle.map_json.specs.Trees.{own_around}

-- ---- one layer
module _ (width height : ℕ) where
  own-tiles : (g : List ℕ → List ℕ) (d : Data) (l : Layer) (b : Body)
      → outline_own width height d (record l { body = body_with_tiles g b }) ≡ outline_own width height d (record l { body = b })
  own-tiles g d l (Tiles e cells) = refl
  own-tiles g d l b = refl

  own-layers : (h : List Layer → List Layer) (d : Data) (l : Layer) (b : Body)
      → outline_own width height d (record l { body = body_with_layers h b }) ≡ outline_own width height d (record l { body = b })
  own-layers h d l (Group' s r) = refl
  own-layers h d l b = refl

  outline-tiles : (g : List ℕ → List ℕ) (groups : ℕ) (l : Layer)
      → outline_layer groups width height (layer_with_tiles g l) ≡ outline_layer groups width height l
  unfolding outline_layer
  outline-tiles g zero l = ap (λ (own : Own). object (with_own own l.kept)) (own-tiles g (array no_items) l l.body)
  outline-tiles g (suc groups) l =
      ap (λ (ls : List Layer). object (with_own (outline_own width height (array_by (outline_layer groups width height) ls) (layer_with_tiles g l)) l.kept))
      (ap or_empty (group_in-contents g (λ os. os) l.body))
      ∙ ap (λ (own : Own). object (with_own own l.kept)) (own-tiles g (array_by (outline_layer groups width height) (inside l)) l l.body)

  -- a group whose layers are written as before
  outline-layers : (h : List Layer → List Layer) → h [] ≡ [] → (groups : ℕ) (l : Layer)
      → items_by (outline_layer groups width height) (h (inside l)) ≡ items_by (outline_layer groups width height) (inside l)
      → outline_layer (suc groups) width height (layer_with_layers h l) ≡ outline_layer (suc groups) width height l
  unfolding outline_layer
  outline-layers h none groups l same =
      ap (λ (ls : List Layer). object (with_own (outline_own width height (array_by (outline_layer groups width height) ls) (layer_with_layers h l)) l.kept))
      (inside-with h none l)
      ∙ ap (λ (is : Items). object (with_own (outline_own width height (array is) (layer_with_layers h l)) l.kept)) same
      ∙ ap (λ (own : Own). object (with_own own l.kept)) (own-layers h (array_by (outline_layer groups width height) (inside l)) l l.body)

-- ---- the layer with an id, among others
module _ (width height id : ℕ) (g : List ℕ → List ℕ) where
  outline-list : (groups : ℕ)
      → ((l : Layer) → outline_layer groups width height (change_one id groups (layer_with_tiles g) l) ≡ outline_layer groups width height l)
      → (ls : List Layer)
      → items_by (outline_layer groups width height) (change_among id groups (layer_with_tiles g) ls) ≡ items_by (outline_layer groups width height) ls
  outline-list groups one [] = refl
  outline-list groups one (l ∷ ls) =
      elim (holds id groups l) as (λ b. items_by (outline_layer groups width height)
      (cond b (change_one id groups (layer_with_tiles g) l ∷ ls) (l ∷ change_among id groups (layer_with_tiles g) ls))
      ≡ item (outline_layer groups width height l) (items_by (outline_layer groups width height) ls)) [
        | true ↦ ap (λ (d : Data). item d (items_by (outline_layer groups width height) ls)) (one l)
        | false ↦ ap (item (outline_layer groups width height l)) (outline-list groups one ls)
      ]

  outline-own : (groups : ℕ) (l : Layer)
      → outline_layer groups width height (changed_below id groups (layer_with_tiles g) l) ≡ outline_layer groups width height l
      → outline_layer groups width height (change_one id groups (layer_with_tiles g) l) ≡ outline_layer groups width height l
  outline-own groups l deeper = rw (change_one-is id groups (layer_with_tiles g) l) (by_own (has_id id l))
    where
      by_own : (b : Bool) → outline_layer groups width height (cond b (layer_with_tiles g l) (changed_below id groups (layer_with_tiles g) l))
          ≡ outline_layer groups width height l
      by_own true = outline-tiles width height g groups l
      by_own false = deeper

  outline-one : (groups : ℕ) (l : Layer)
      → outline_layer groups width height (change_one id groups (layer_with_tiles g) l) ≡ outline_layer groups width height l
  outline-one zero l = outline-own zero l refl
  outline-one (suc groups) l = outline-own (suc groups) l
      (outline-layers width height (change_among id groups (layer_with_tiles g)) refl groups l (outline-list groups (outline-one groups) (inside l)))

pub outline_of-with_tiles : (m : MapParts) (id : ℕ) (g : List ℕ → List ℕ) → outline_of (with_tiles m id g) ≡ outline_of m
unfolding outline_of
outline_of-with_tiles m id g =
    ap (λ (is : Items). object (with_own (own_around (array is) m) m.kept))
    (outline-list m.width m.height id g MAX_GROUPS (outline-one m.width m.height id g MAX_GROUPS) m.layers)
