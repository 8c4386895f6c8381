-- The laws of lenses.
use Rattle.std.proofs.Common.{◌≡◌, ℕ, zero, suc, List, [], ◌∷◌, Bool, nat_eq, Option, Some, None, option_map, option_and_then, find, refl, sym, ap, ◌∙◌, subst}
use Rattle.std.specs.List.{slice_get}
use Rattle.map_model.specs.declared.limits.TheConstants.{MAX_GROUPS}
use Rattle.map_model.specs.declared.parts.Layer.{Layer}
use Rattle.map_model.specs.declared.parts.Object.{Object}
use Rattle.map_model.specs.declared.parts.Tileset.{Tileset}
use Rattle.map_model.specs.declared.place.ObjectPlace.{ObjectPlace}
use Rattle.map_model.specs.Document.{DocumentParts, with_selection}
use Rattle.map_model.specs.Layers.{layer_name, layer_with_name, layer_visible, layer_with_visible, next_ids_of, with_next_ids}
use Rattle.map_model.specs.Lists.{change_at}
use Rattle.map_model.specs.Objects.{objects_of, object_at, object_placing, object_with_placing}
use Rattle.map_model.specs.Lookups.{layer_of}
use Rattle.map_model.proofs.BodyLaws.{body_with_contents-same, body_with_contents-twice, body_with_objects-along, objects_in-contents}
use Rattle.map_model.proofs.GroupBodies.{group_of-with, body_with_layers-along, body_with_layers-same, body_with_layers-twice}
use Rattle.map_model.proofs.TreeChanges.{layer_among-change_among, change_among-change_among, change_among-along, change_among-same}
use Rattle.map_model.proofs.FirstChanges.{change_first-change_first, find-change_first, change_first-along, change_first-same}
use Rattle.map_model.specs.Lens.{Lens, IsLawfulLens, AreApart, whole, inner, of_first, of_place, layers, group, siblings, of_layer, objects, layer_objects}
use Rattle.map_model.specs.Lens.{of_object, of_tileset, next_ids, next_object_id, name, visible, selection, tilesets, placing, put}
use Rattle.map_model.specs.Tilesets.{has_first_id}

pub some-eq : {V : Type 0} (v w : V) → Some v ≡ Some w → v ≡ w
some-eq v w e = cc

-- where a lens through a lens is, the outer one is
within : {V W : Type 0} (q : V → Option W) (w : W) (o : Option V) → option_and_then q o ≡ Some w → (v : V) × ((o ≡ Some v) × (q v ≡ Some w))
within q w None e = cc
within q w (Some v) e = (v, (refl, e))

pub whole-laws : {A V : Type 0} (get : A → V) (set : V → A → A) → ((v : V) (a : A) → get (set v a) ≡ v) → ((a : A) → set (get a) a ≡ a)
    → ((v w : V) (a : A) → set v (set w a) ≡ set v a) → IsLawfulLens (whole get set)
whole-laws get set get-set set-get set-set = record {
  get-update = λ f v a e. ap Some (get-set (f (get a)) a ∙ ap f (some-eq (get a) v e));
  update-same = λ f v a e same. let own = some-eq (get a) v e in ap (λ w. set w a) (ap f own ∙ same ∙ sym own) ∙ set-get a;
  update-update = λ f g a. ap (λ v. set (f v) (set (g (get a)) a)) (get-set (g (get a)) a) ∙ set-set (f (g (get a))) (g (get a)) a;
}

pub inner-laws : {A V W : Type 0} (p : Lens A V) (q : Lens V W) → IsLawfulLens p → IsLawfulLens q → IsLawfulLens (inner p q)
inner-laws p q ps qs = record {
  get-update = λ f w a e. let s = within q.get w (p.get a) e in ap (option_and_then q.get) (ps.get-update (q.update f) s.0 a s.1.0)
      ∙ qs.get-update f w s.0 s.1.1;
  update-same = λ f w a e same. let s = within q.get w (p.get a) e in ps.update-same (q.update f) s.0 a s.1.0 (qs.update-same f w s.0 s.1.1 same);
  update-update = λ f g a. ps.update-update (q.update f) (q.update g) a ∙ (λ i. p.update (λ v. qs.update-update f g v i) a);
}

pub of_first-laws : {A V : Type 0} (test : A → Bool) (p : Lens A V) → ((f : V → V) (a : A) → test (p.update f a) ≡ test a) → IsLawfulLens p
    → IsLawfulLens (of_first test p)
of_first-laws test p stays ps = record {
  get-update = λ f v xs e. let s = within p.get v (find test xs) e in
      ap (option_and_then p.get) (find-change_first test (p.update f) (p.update f) (stays f) xs ∙ ap (option_map (p.update f)) s.1.0)
      ∙ ps.get-update f v s.0 s.1.1;
  update-same = λ f v xs e same. let s = within p.get v (find test xs) e in
      change_first-along test (p.update f) (λ k. k) xs
      (λ k q. let found : s.0 ≡ k = cc in subst (λ j. p.update f j ≡ j) found (ps.update-same f v s.0 s.1.1 same))
      ∙ change_first-same test xs;
  update-update = λ f g xs. change_first-change_first test (p.update f) (p.update g) (stays g) xs
      ∙ change_first-along test (λ k. p.update f (p.update g k)) (p.update (λ v. f (g v))) xs (λ k q. ps.update-update f g k);
}

pub slice_get-change_at : {A : Type 0} (g : A → A) (xs : List A) (k : ℕ) → slice_get (change_at k g xs) k ≡ option_map g (slice_get xs k)
slice_get-change_at g [] zero = refl
slice_get-change_at g [] (suc k) = refl
slice_get-change_at g (x ∷ xs) zero = refl
slice_get-change_at g (x ∷ xs) (suc k) = slice_get-change_at g xs k

change_at-change_at : {A : Type 0} (f g : A → A) (xs : List A) (k : ℕ) → change_at k f (change_at k g xs) ≡ change_at k (λ a. f (g a)) xs
change_at-change_at f g [] zero = refl
change_at-change_at f g [] (suc k) = refl
change_at-change_at f g (x ∷ xs) zero = refl
change_at-change_at f g (x ∷ xs) (suc k) = ap (λ ys. x ∷ ys) (change_at-change_at f g xs k)

pub change_at-along : {A : Type 0} (f g : A → A) (xs : List A) (k : ℕ) → ((a : A) → slice_get xs k ≡ Some a → f a ≡ g a) → change_at k f xs ≡ change_at k g xs
change_at-along f g [] zero e = refl
change_at-along f g [] (suc k) e = refl
change_at-along f g (x ∷ xs) zero e = ap (λ y. y ∷ xs) (e x refl)
change_at-along f g (x ∷ xs) (suc k) e = ap (λ ys. x ∷ ys) (change_at-along f g xs k e)

change_at-same : {A : Type 0} (xs : List A) (k : ℕ) → change_at k (λ a. a) xs ≡ xs
change_at-same [] zero = refl
change_at-same [] (suc k) = refl
change_at-same (x ∷ xs) zero = refl
change_at-same (x ∷ xs) (suc k) = ap (λ ys. x ∷ ys) (change_at-same xs k)

pub of_place-laws : {A V : Type 0} (k : ℕ) (p : Lens A V) → IsLawfulLens p → IsLawfulLens (of_place k p)
of_place-laws k p ps = record {
  get-update = λ f v xs e. let s = within p.get v (slice_get xs k) e in
      ap (option_and_then p.get) (slice_get-change_at (p.update f) xs k ∙ ap (option_map (p.update f)) s.1.0) ∙ ps.get-update f v s.0 s.1.1;
  update-same = λ f v xs e same. let s = within p.get v (slice_get xs k) e in
      change_at-along (p.update f) (λ a. a) xs k
      (λ a q. let found : s.0 ≡ a = cc in subst (λ b. p.update f b ≡ b) found (ps.update-same f v s.0 s.1.1 same))
      ∙ change_at-same xs k;
  update-update = λ f g xs. change_at-change_at (p.update f) (p.update g) xs k
      ∙ change_at-along (λ a. p.update f (p.update g a)) (p.update (λ v. f (g v))) xs k (λ a q. ps.update-update f g a);
}

-- ---- lenses of a document
pub layers-laws : IsLawfulLens layers
layers-laws = whole-laws (λ d. d.map.layers) (λ ls d. record d { map = record d.map { layers = ls } }) (λ v d. refl) (λ d. refl) (λ v w d. refl)

pub next_ids-laws : IsLawfulLens next_ids
next_ids-laws = whole-laws (λ d. next_ids_of d.map) (λ n d. record d { map = with_next_ids n.layer n.object d.map }) (λ v d. refl) (λ d. refl)
    (λ v w d. refl)

pub next_object_id-laws : IsLawfulLens next_object_id
next_object_id-laws = whole-laws (λ d. d.map.next_object_id) (λ n d. record d { map = record d.map { next_object_id = n } }) (λ v d. refl) (λ d. refl)
    (λ v w d. refl)

pub tilesets-laws : IsLawfulLens tilesets
tilesets-laws = whole-laws (λ d. d.map.tilesets) (λ ts d. record d { map = record d.map { tilesets = ts } }) (λ v d. refl) (λ d. refl) (λ v w d. refl)

pub of_tileset-laws : {V : Type 0} (first_id : ℕ) (p : Lens Tileset V) → ((f : V → V) (t : Tileset) → (p.update f t).first_id ≡ t.first_id) → IsLawfulLens p
    → IsLawfulLens (of_tileset first_id p)
of_tileset-laws first_id p stays ps =
    inner-laws tilesets (of_first (has_first_id first_id) p) tilesets-laws
    (of_first-laws (has_first_id first_id) p (λ f t. ap (λ n. nat_eq n first_id) (stays f t)) ps)

pub selection-laws : IsLawfulLens selection
selection-laws = whole-laws (λ d. d.selection) with_selection (λ v d. refl) (λ d. refl) (λ v w d. refl)

pub siblings-next_ids : (parent : Option ℕ) → AreApart (siblings parent) next_ids
siblings-next_ids None = record { get-left = λ g d. refl; get-right = λ f d. refl; swapped = λ f g d. refl }
siblings-next_ids (Some id) = record { get-left = λ g d. refl; get-right = λ f d. refl; swapped = λ f g d. refl }

pub of_layer-laws : {V : Type 0} (id : ℕ) (p : Lens Layer V) → ((f : V → V) (l : Layer) → (p.update f l).id ≡ l.id) → IsLawfulLens p
    → IsLawfulLens (of_layer id p)
of_layer-laws id p stays ps = record {
  get-update = λ f v d e. let s = within p.get v (layer_of d.map id) e in
      ap (option_and_then p.get) (layer_among-change_among id (p.update f) (stays f) MAX_GROUPS d.map.layers ∙ ap (option_map (p.update f)) s.1.0)
      ∙ ps.get-update f v s.0 s.1.1;
  update-same = λ f v d e same. let s = within p.get v (layer_of d.map id) e in
      ap (λ ls. record d { map = record d.map { layers = ls } })
      (change_among-along id (p.update f) (λ k. k) MAX_GROUPS d.map.layers
      (λ k q. let found : s.0 ≡ k = some-eq s.0 k (sym s.1.0 ∙ q) in subst (λ j. p.update f j ≡ j) found (ps.update-same f v s.0 s.1.1 same))
      ∙ change_among-same id MAX_GROUPS d.map.layers);
  update-update = λ f g d.
      ap (λ ls. record d { map = record d.map { layers = ls } })
      (change_among-change_among id (p.update g) (stays g) MAX_GROUPS (p.update f) d.map.layers
      ∙ change_among-along id (λ k. p.update f (p.update g k)) (p.update (λ v. f (g v))) MAX_GROUPS d.map.layers (λ k q. ps.update-update f g k));
}

-- ---- groups
pub group-laws : IsLawfulLens group
group-laws = record {
  get-update = λ f ls l e. group_of-with f l ls e;
  update-same = λ f ls l e q. λ i. record l {
    body = (body_with_layers-along f (λ ks. ks) l.body
        (λ ks h. let own : ls ≡ ks = some-eq ls ks (sym e ∙ h) in subst (λ js. f js ≡ js) own q) ∙ body_with_layers-same l.body) i;
  };
  update-update = λ f g l. λ i. record l { body = body_with_layers-twice f g l.body i };
}

pub siblings-laws : (parent : Option ℕ) → IsLawfulLens (siblings parent)
siblings-laws None = layers-laws
siblings-laws (Some id) = of_layer-laws id group (λ f l. refl) group-laws

pub name-laws : (id : ℕ) → IsLawfulLens (of_layer id name)
name-laws id = of_layer-laws id name (λ f l. refl) (whole-laws layer_name layer_with_name (λ v l. refl) (λ l. refl) (λ v w l. refl))

pub visible-laws : (id : ℕ) → IsLawfulLens (of_layer id visible)
visible-laws id = of_layer-laws id visible (λ f l. refl) (whole-laws layer_visible layer_with_visible (λ v l. refl) (λ l. refl) (λ v w l. refl))

-- a lens that is read by a map
pub mapped : {A V : Type 0} (f : A → V) (o : Option A) (v : V) → option_map f o ≡ Some v → option_and_then (λ a. Some (f a)) o ≡ Some v
mapped f None v e = cc
mapped f (Some a) v e = e

-- ---- objects
pub objects-laws : IsLawfulLens objects
objects-laws = record {
  get-update = λ f os l e. objects_in-contents (λ cells. cells) f l.body ∙ ap (option_map f) e;
  update-same = λ f os l e q. ap (λ b. record l { body = b }) (body_with_objects-along f (λ ps. ps) os l.body e q ∙ body_with_contents-same l.body);
  update-update = λ f g l. ap (λ b. record l { body = b }) (body_with_contents-twice (λ cells. cells) f (λ cells. cells) g l.body);
}

pub layer_objects-laws : (id : ℕ) → IsLawfulLens (layer_objects id)
layer_objects-laws id = of_layer-laws id objects (λ f l. refl) objects-laws

pub of_object-laws : {V : Type 0} (place : ObjectPlace) (p : Lens Object V) → IsLawfulLens p → IsLawfulLens (of_object place p)
of_object-laws place p ps =
    of_layer-laws place.layer (inner objects (of_place place.at p)) (λ f l. refl)
    (inner-laws objects (of_place place.at p) objects-laws (of_place-laws place.at p ps))

pub placing-laws : (place : ObjectPlace) → IsLawfulLens (of_object place placing)
placing-laws place = of_object-laws place placing (whole-laws object_placing object_with_placing (λ v o. refl) (λ o. refl) (λ v w o. refl))

pub layer_objects-next_object_id : (id : ℕ) → AreApart (layer_objects id) next_object_id
layer_objects-next_object_id id = record { get-left = λ g d. refl; get-right = λ f d. refl; swapped = λ f g d. refl }

-- a lens of the object at a place is that lens of the object that stands there
pub of_object-get : {V : Type 0} (place : ObjectPlace) (p : Lens Object V) (d : DocumentParts)
    → (of_object place p).get d ≡ option_and_then p.get (object_at d.map place)
of_object-get {V = V} place p d = by_layer (layer_of d.map place.layer)
  where
    by_objects : (o : Option (List Object)) → option_and_then (λ os. option_and_then p.get (slice_get os place.at)) o
        ≡ option_and_then p.get (option_and_then (λ os. slice_get os place.at) o)
    by_objects None = refl
    by_objects (Some os) = refl

    by_layer : (o : Option Layer) → option_and_then (λ l. option_and_then (λ os. option_and_then p.get (slice_get os place.at)) (objects_of l)) o
        ≡ option_and_then p.get (option_and_then (λ os. slice_get os place.at) (option_and_then objects_of o))
    by_layer None = refl
    by_layer (Some l) = by_objects (objects_of l)

-- f of a lens's own value
pub update-put : {A V : Type 0} {p : Lens A V} → IsLawfulLens p → (f : V → V) (v : V) (a : A) → p.get a ≡ Some v → p.update f a ≡ put p (f v) a
update-put {p = p} laws f v a e = ap (p.update f) (sym (laws.update-same (λ w. v) v a e refl)) ∙ laws.update-update f (λ w. v) a
