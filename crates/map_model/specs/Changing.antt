-- A layer or an object that a closure changes where it stands.
use Rattle.std.specs.Prelude.{◌≡◌, ℕ, List, Some, option_and_then, slice_get}
use Rattle.std.specs.Borrow.{MutBor}
use Rattle.std.specs.Fn.{Once, FnOnceReturnsAtMut}
use Rattle.map_model.specs.declared.limits.TheConstants.{MAX_GROUPS}
use Rattle.map_model.specs.declared.parts.Body.{Body}
use Rattle.map_model.specs.declared.parts.Layer.{Layer}
use Rattle.map_model.specs.declared.parts.Object.{Object}
use Rattle.map_model.specs.declared.place.ObjectPlace.{ObjectPlace}
use Rattle.map_model.specs.Bodies.{body_with_objects, objects_in}
use Rattle.map_model.specs.Groups.{body_with_layers, change_among, group_in, layer_among}
use Rattle.map_model.specs.Lists.{change_at}
use Rattle.map_model.specs.Objects.{layer_with_objects, objects_of}

-- the layer with the id is changed by one call of f, which gives r; what the call leaves stands in its place
pub record ChangesLayer {F R : Type 0} (g : Once F (MutBor Layer × Unit {0}) (R × (MutBor Layer × Unit {0}))) (f : F) (id groups : ℕ) (old : List Layer) (r : R)
    (new : List Layer) : Type 0 where
  pub layer : Layer
  pub left : Layer
  pub found : layer_among id groups old ≡ Some layer
  pub call : FnOnceReturnsAtMut g f layer r left
  pub is : new ≡ change_among id groups (λ own. left) old

-- the layer with the id, among those that stand in a group, is changed by one call of f, which gives r
pub record ChangesInside {F R : Type 0} (g : Once F (MutBor Layer × Unit {0}) (R × (MutBor Layer × Unit {0}))) (f : F) (id groups : ℕ) (old : Body) (r : R)
    (new : Body) : Type 0 where
  pub layer : Layer
  pub left : Layer
  pub found : option_and_then (layer_among id groups) (group_in old) ≡ Some layer
  pub call : FnOnceReturnsAtMut g f layer r left
  pub is : new ≡ body_with_layers (change_among id groups (λ own. left)) old

-- the object at a place of a layer's body is changed by one call of f, which gives r
pub record ChangesObjectIn {F R : Type 0} (g : Once F (MutBor Object × Unit {0}) (R × (MutBor Object × Unit {0}))) (f : F) (at : ℕ) (old : Body) (r : R)
    (new : Body) : Type 0 where
  pub object : Object
  pub left : Object
  pub found : option_and_then (λ os. slice_get os at) (objects_in old) ≡ Some object
  pub call : FnOnceReturnsAtMut g f object r left
  pub is : new ≡ body_with_objects (change_at at (λ own. left)) old

-- the object at a place is changed by one call of f, which gives r; what the call leaves stands there
pub record ChangesObject {F R : Type 0} (g : Once F (MutBor Object × Unit {0}) (R × (MutBor Object × Unit {0}))) (f : F) (place : ObjectPlace)
    (old : List Layer) (r : R) (new : List Layer) : Type 0 where
  pub object : Object
  pub left : Object
  pub found : option_and_then (λ os. slice_get os place.at) (option_and_then objects_of (layer_among place.layer MAX_GROUPS old)) ≡ Some object
  pub call : FnOnceReturnsAtMut g f object r left
  pub is : new ≡ change_among place.layer MAX_GROUPS (layer_with_objects (change_at place.at (λ own. left))) old
