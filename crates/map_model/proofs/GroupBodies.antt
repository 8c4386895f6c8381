-- A layer and the layers that stand in it.
use Rattle.std.proofs.Common.{◌≡◌, ℕ, List, [], Some, None, refl, sym, ap, ◌∙◌, subst}
use Rattle.map_model.specs.declared.parts.Body.{Body}
use Rattle.map_model.specs.declared.parts.Body.TheVariants.{Group, Group'}
use Rattle.map_model.specs.declared.parts.Body.TheViews.{out-Body, outs-Group, outs-Group', roll-Body, roll-out-Body, rolls-Group}
use Rattle.map_model.specs.declared.parts.Layer.{Layer}
use Rattle.map_model.specs.Bodies.{objects_in}
use Rattle.map_model.specs.Canvas.{lists_in}
use Rattle.map_model.specs.Groups.{layers_by, group_in, group_of, inside, bare, body_with_layers, layer_with_layers}
use Rattle.map_model.specs.Format.{body_names}
use Rattle.map_model.specs.Lists.{or_empty}
use Rattle.map_model.specs.Tilesets.{values_in}
use Rattle.map_model.specs.WellFormed.{IsBody, IsLayer, object_ids_in}

-- ---- a group
pub group_in-Group : (ls : List Layer) → group_in (Group ls) ≡ Some ls
group_in-Group ls = ap (λ x. Some (layers_by x)) (outs-Group ls)

pub body_with_layers-Group : (f : List Layer → List Layer) (ls : List Layer) → body_with_layers f (Group ls) ≡ Group (f ls)
body_with_layers-Group f ls = ap (λ x. Group (f (layers_by x))) (outs-Group ls)

-- a group is that of its layers
Group-layers_by : (b : Body) (ls : List Layer) → group_in b ≡ Some ls → b ≡ Group ls
Group-layers_by (Group' s r) ls h =
    let are : layers_by (out-Body (Group' s r)) ≡ ls = cc in
    let own = outs-Group' s r in
    sym (roll-out-Body (Group' s r)) ∙ ap roll-Body own ∙ rolls-Group _ ∙ ap Group (sym (ap layers_by own) ∙ are)
Group-layers_by b ls h = cc

-- ---- other layers in a body
group_in-with : (f : List Layer → List Layer) (b : Body) (ls : List Layer) → group_in b ≡ Some ls → group_in (body_with_layers f b) ≡ Some (f ls)
group_in-with f b ls h =
    ap (λ c. group_in (body_with_layers f c)) (Group-layers_by b ls h) ∙ ap group_in (body_with_layers-Group f ls) ∙ group_in-Group (f ls)

pub group_of-with : (f : List Layer → List Layer) (l : Layer) (ls : List Layer) → group_of l ≡ Some ls → group_of (layer_with_layers f l) ≡ Some (f ls)
group_of-with f l ls h = group_in-with f l.body ls h

-- a body is a group, or has no layers and stays as it is
pub group_cases : (P : Body → Type 0) → ((b : Body) → group_in b ≡ None → ((f : List Layer → List Layer) → body_with_layers f b ≡ b) → P b)
    → ((ls : List Layer) → P (Group ls)) → (b : Body) → P b
group_cases P other group (Group' s r) = subst P (sym (Group-layers_by (Group' s r) (layers_by (out-Body (Group' s r))) refl))
    (group (layers_by (out-Body (Group' s r))))
group_cases P other group b = other b refl (λ f. refl)

-- what stands in a layer that gets other layers
pub inside-with : (f : List Layer → List Layer) → f [] ≡ [] → (l : Layer) → inside (layer_with_layers f l) ≡ f (inside l)
inside-with f none l =
    group_cases (λ b. or_empty (group_in (body_with_layers f b)) ≡ f (or_empty (group_in b)))
    (λ b no same. ap (λ c. or_empty (group_in c)) (same f) ∙ ap or_empty no ∙ sym none ∙ ap (λ o. f (or_empty o)) (sym no))
    (λ ls. ap (λ c. or_empty (group_in c)) (body_with_layers-Group f ls) ∙ ap or_empty (group_in-Group (f ls))
    ∙ ap (λ o. f (or_empty o)) (sym (group_in-Group ls)))
    l.body

pub body_with_layers-twice : (f g : List Layer → List Layer) (b : Body) → body_with_layers f (body_with_layers g b) ≡ body_with_layers (λ ls. f (g ls)) b
body_with_layers-twice f g =
    group_cases (λ b. body_with_layers f (body_with_layers g b) ≡ body_with_layers (λ ls. f (g ls)) b)
    (λ b no same. ap (body_with_layers f) (same g) ∙ same f ∙ sym (same (λ ls. f (g ls))))
    (λ ls. ap (body_with_layers f) (body_with_layers-Group g ls) ∙ body_with_layers-Group f (g ls) ∙ sym (body_with_layers-Group (λ ks. f (g ks)) ls))

-- two changes that agree on the layers that stand there
pub body_with_layers-along : (f g : List Layer → List Layer) (b : Body) → ((ls : List Layer) → group_in b ≡ Some ls → f ls ≡ g ls)
    → body_with_layers f b ≡ body_with_layers g b
body_with_layers-along f g =
    group_cases (λ b. ((ls : List Layer) → group_in b ≡ Some ls → f ls ≡ g ls) → body_with_layers f b ≡ body_with_layers g b)
    (λ b no same k. same f ∙ sym (same g))
    (λ ls k. body_with_layers-Group f ls ∙ ap Group (k ls (group_in-Group ls)) ∙ sym (body_with_layers-Group g ls))

pub body_with_layers-same : (b : Body) → body_with_layers (λ ls. ls) b ≡ b
body_with_layers-same = group_cases (λ b. body_with_layers (λ ls. ls) b ≡ b) (λ b no same. same (λ ls. ls)) (λ ls. body_with_layers-Group (λ ks. ks) ls)

-- ---- what a body has beside its layers
module _ (f : List Layer → List Layer) where
  pub object_ids-with : (b : Body) → object_ids_in (body_with_layers f b) ≡ object_ids_in b
  object_ids-with (Group' s r) = refl
  object_ids-with b = refl

  pub objects_in-with : (b : Body) → objects_in (body_with_layers f b) ≡ objects_in b
  objects_in-with (Group' s r) = refl
  objects_in-with b = refl

  pub lists_in-with : (b : Body) → lists_in (body_with_layers f b) ≡ lists_in b
  lists_in-with (Group' s r) = refl
  lists_in-with b = refl

  pub values_in-with : (b : Body) → values_in (body_with_layers f b) ≡ values_in b
  values_in-with (Group' s r) = refl
  values_in-with b = refl

  pub body_names-with : (b : Body) → body_names (body_with_layers f b) ≡ body_names b
  body_names-with (Group' s r) = refl
  body_names-with b = refl

  pub IsBody-with : (tier size : ℕ) (b : Body) → IsBody tier size (body_with_layers f b) ≡ IsBody tier size b
  IsBody-with tier size (Group' s r) = refl
  IsBody-with tier size b = refl

  -- a layer is one of a map with other layers in it too
  pub IsLayer-with : (tier size : ℕ) (l : Layer) → IsLayer tier size l → IsLayer tier size (layer_with_layers f l)
  IsLayer-with tier size l h = record {
    name = h.name;
    properties = h.properties;
    kept = rw (body_names-with l.body) h.kept;
    body = rw (IsBody-with tier size l.body) h.body;
  }

  pub IsLayer-without : (tier size : ℕ) (l : Layer) → IsLayer tier size (layer_with_layers f l) → IsLayer tier size l
  IsLayer-without tier size l h = record {
    name = h.name;
    properties = h.properties;
    kept = rw (← body_names-with l.body) h.kept;
    body = rw (← IsBody-with tier size l.body) h.body;
  }

pub bare-with : (f : List Layer → List Layer) (l : Layer) → bare (layer_with_layers f l) ≡ bare l
bare-with f l = ap (λ b. record l { body = b }) (body_with_layers-twice (λ ls. []) f l.body)
