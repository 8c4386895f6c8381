-- A body with other values or other objects in it.
use Rattle.std.proofs.Common.{◌≡◌, ℕ, List, Some, option_map, refl, ap}
use Rattle.std.specs.List.{flat_map}
use Rattle.map_model.specs.declared.parts.Body.{Body}
use Rattle.map_model.specs.declared.parts.Body.TheVariants.{Tiles, Objects}
use Rattle.map_model.specs.declared.parts.Layer.{Layer}
use Rattle.map_model.specs.declared.parts.Object.{Object}
use Rattle.map_model.specs.Bodies.{body_with_contents, body_with_objects, objects_in, tiles_or_none}
use Rattle.map_model.specs.Canvas.{AreCells}
use Rattle.map_model.specs.Groups.{body_with_layers, group_in}
use Rattle.map_model.specs.Format.{body_names}
use Rattle.map_model.specs.WellFormed.{IsBody, IsLayer, ids_of_object, object_ids_in}

module _ (f : List ℕ → List ℕ) (g : List Object → List Object) where
  -- ---- what is read of it
  pub objects_in-contents : (b : Body) → objects_in (body_with_contents f g b) ≡ option_map g (objects_in b)
  objects_in-contents (Objects os) = refl
  objects_in-contents b = refl

  pub group_in-contents : (b : Body) → group_in (body_with_contents f g b) ≡ group_in b
  group_in-contents (Tiles e cells) = refl
  group_in-contents b = refl

  pub object_ids-contents : ((os : List Object) → flat_map ids_of_object (g os) ≡ flat_map ids_of_object os) → (b : Body)
      → object_ids_in (body_with_contents f g b) ≡ object_ids_in b
  object_ids-contents same (Objects os) = same os
  object_ids-contents same b = refl

  body_names-contents : (b : Body) → body_names (body_with_contents f g b) ≡ body_names b
  body_names-contents (Tiles e cells) = refl
  body_names-contents b = refl

  -- ---- other changes
  pub body_with_contents-with : (h : List Layer → List Layer) (b : Body)
      → body_with_contents f g (body_with_layers h b) ≡ body_with_layers h (body_with_contents f g b)
  body_with_contents-with h (Tiles e cells) = refl
  body_with_contents-with h b = refl

  pub body_with_contents-twice : (p : List ℕ → List ℕ) (q : List Object → List Object) (b : Body)
      → body_with_contents f g (body_with_contents p q b) ≡ body_with_contents (λ cells. f (p cells)) (λ os. g (q os)) b
  body_with_contents-twice p q (Tiles e cells) = refl
  body_with_contents-twice p q b = refl

  -- ---- well formed
  module _ (tier old size : ℕ) where
    IsBody-contents : (b : Body) → ((cells : List ℕ) → tiles_or_none b ≡ Some cells → AreCells old cells → AreCells size (f cells))
        → ((os : List Object) → objects_in b ≡ Some os → IsBody tier old (Objects os) → IsBody tier size (Objects (g os)))
        → IsBody tier old b → IsBody tier size (body_with_contents f g b)
    IsBody-contents (Tiles e cells) tiles objects h = tiles cells refl h
    IsBody-contents (Objects os) tiles objects h = objects os refl h
    IsBody-contents b tiles objects h = h

    -- a layer is one of a map with them too
    pub IsLayer-contents : (l : Layer) → ((cells : List ℕ) → tiles_or_none l.body ≡ Some cells → AreCells old cells → AreCells size (f cells))
        → ((os : List Object) → objects_in l.body ≡ Some os → IsBody tier old (Objects os) → IsBody tier size (Objects (g os)))
        → IsLayer tier old l → IsLayer tier size (record l { body = body_with_contents f g l.body })
    IsLayer-contents l tiles objects h = record {
      name = h.name;
      properties = h.properties;
      kept = rw (body_names-contents l.body) h.kept;
      body = IsBody-contents l.body tiles objects h.body;
    }

-- two changes that agree on the objects that are there
pub body_with_objects-along : (f g : List Object → List Object) (os : List Object) (b : Body) → objects_in b ≡ Some os → f os ≡ g os
    → body_with_objects f b ≡ body_with_objects g b
body_with_objects-along f g os (Objects own) e same = let is : own ≡ os = cc in ap Objects (rw is same)
body_with_objects-along f g os b e same = refl

-- the body as it is
pub body_with_contents-same : (b : Body) → body_with_contents (λ cells. cells) (λ os. os) b ≡ b
body_with_contents-same (Tiles e cells) = refl
body_with_contents-same b = refl
