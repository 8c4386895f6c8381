-- An object that was changed where it stands.
use Rattle.std.proofs.Common.{◌≡◌, ℕ, List, Option, Some, None, IsSomeAnd, option_and_then, refl, sym, ap, ◌∙◌}
use Rattle.std.specs.List.{slice_get}
use Rattle.map_model.specs.declared.limits.TheConstants.{MAX_GROUPS}
use Rattle.map_model.specs.declared.parts.Body.{Body}
use Rattle.map_model.specs.declared.parts.Body.TheVariants.{Objects}
use Rattle.map_model.specs.declared.parts.Layer.{Layer}
use Rattle.map_model.specs.declared.parts.Object.{Object}
use Rattle.map_model.specs.declared.place.ObjectPlace.{ObjectPlace}
use Rattle.map_model.specs.Bodies.{body_with_objects, objects_in}
use Rattle.map_model.specs.Groups.{change_among, layer_among}
use Rattle.map_model.specs.Lists.{change_at}
use Rattle.map_model.specs.Objects.{layer_with_objects, objects_of}
use Rattle.map_model.proofs.LensLaws.{change_at-along}
use Rattle.map_model.proofs.TreeChanges.{change_among-along}

-- two changes that agree on the object
body-along : (f g : Object → Object) (b : Body) (k : ℕ) (o : Object) → option_and_then (λ os. slice_get os k) (objects_in b) ≡ Some o → f o ≡ g o
    → body_with_objects (change_at k f) b ≡ body_with_objects (change_at k g) b
body-along f g (Objects os) k o found same = ap Objects (change_at-along f g os k
    (λ a there. let is : o ≡ a = cc (found, there) in ap f (sym is) ∙ (same ∙ ap g is)))
body-along f g b k o found same = refl

-- what was left there is f of the object
pub object_by : (place : ObjectPlace) (f : Object → Object) (old new : List Layer) (o left : Object)
    → option_and_then (λ os. slice_get os place.at) (option_and_then objects_of (layer_among place.layer MAX_GROUPS old)) ≡ Some o
    → new ≡ change_among place.layer MAX_GROUPS (layer_with_objects (change_at place.at (λ own. left))) old → left ≡ f o
    → new ≡ change_among place.layer MAX_GROUPS (layer_with_objects (change_at place.at f)) old
object_by place f old new o left found is same =
    is ∙ change_among-along place.layer (layer_with_objects (change_at place.at (λ own. left))) (layer_with_objects (change_at place.at f)) MAX_GROUPS old
    (λ (k : Layer) e. let there = rw e at found in ap (λ (b : Body). record k { body = b }) (body-along (λ own. left) f k.body place.at o there same))

-- the same where an item that was put in tells what was left
pub object_with : {X : Type 0} (place : ObjectPlace) (f : X → Object → Object) (item : Option X) (old new : List Layer) (o left : Object)
    → option_and_then (λ os. slice_get os place.at) (option_and_then objects_of (layer_among place.layer MAX_GROUPS old)) ≡ Some o
    → new ≡ change_among place.layer MAX_GROUPS (layer_with_objects (change_at place.at (λ own. left))) old → IsSomeAnd item (λ x. left ≡ f x o)
    → IsSomeAnd item (λ x. new ≡ change_among place.layer MAX_GROUPS (layer_with_objects (change_at place.at (f x))) old)
object_with place f None old new o left found is h = h
object_with place f (Some x) old new o left found is h = object_by place (f x) old new o left found is h
