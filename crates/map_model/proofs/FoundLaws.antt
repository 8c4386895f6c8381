-- The laws of a lens at the place that a look-up finds.
use Rattle.std.proofs.Common.{◌≡◌, Option, Some, None, option_and_then, refl}
use Rattle.map_model.specs.Lens.{Lens, IsLawfulLens, found, update_found}

-- a lens that is there stands at a place that is found
pub found-there : {A K V : Type 0} (place : A → Option K) (p : K → Lens A V) (v : V) (a : A) → (found place p).get a ≡ Some v
    → (k : K) × ((place a ≡ Some k) × ((p k).get a ≡ Some v))
found-there {K = K} place p v a e = by_place (place a) refl e
  where
    by_place : (o : Option K) → place a ≡ o → option_and_then (λ k. (p k).get a) o ≡ Some v → (k : K) × ((place a ≡ Some k) × ((p k).get a ≡ Some v))
    by_place None q g = cc
    by_place (Some k) q g = (k, (q, g))

-- where the look-up finds a place, the lens is the one there
module _ {A K V : Type 0} (place : A → Option K) (p : K → Lens A V) (k : K) (a : A) (e : place a ≡ Some k) where
  pub found-get : (found place p).get a ≡ (p k).get a
  found-get = rw e refl

  pub found-update : (f : V → V) → (found place p).update f a ≡ (p k).update f a
  found-update f = rw e refl

-- changes of the lens that keep what the look-up finds
module _ {A K V : Type 0} (place : A → Option K) (p : K → Lens A V)
    (keeps : (k : K) (f : V → V) (a : A) → place a ≡ Some k → place ((p k).update f a) ≡ Some k) where
  pub found-keeps : (f : V → V) (a : A) → place ((found place p).update f a) ≡ place a
  found-keeps f a = by_place (place a) refl
    where
      by_place : (o : Option K) → place a ≡ o → place (update_found p f a o) ≡ o
      by_place None e = e
      by_place (Some k) e = keeps k f a e

  pub found-laws : ((k : K) → IsLawfulLens (p k)) → IsLawfulLens (found place p)
  found-laws laws = record {
    get-update = λ f v a e. got f v a (place a) refl e;
    update-same = λ f v a e same. unchanged f v a same (place a) e;
    update-update = λ f g a. twice f g a (place a) refl;
  }
    where
      got : (f : V → V) (v : V) (a : A) (o : Option K) → place a ≡ o → option_and_then (λ k. (p k).get a) o ≡ Some v
          → option_and_then (λ k. (p k).get (update_found p f a o)) (place (update_found p f a o)) ≡ Some (f v)
      got f v a None e g = cc
      got f v a (Some k) e g = rw (keeps k f a e) ((laws k).get-update f v a g)

      unchanged : (f : V → V) (v : V) (a : A) → f v ≡ v → (o : Option K) → option_and_then (λ k. (p k).get a) o ≡ Some v → update_found p f a o ≡ a
      unchanged f v a same None g = refl
      unchanged f v a same (Some k) g = (laws k).update-same f v a g same

      twice : (f g : V → V) (a : A) (o : Option K) → place a ≡ o
          → update_found p f (update_found p g a o) (place (update_found p g a o)) ≡ update_found p (λ v. f (g v)) a o
      twice f g a None e = rw e refl
      twice f g a (Some k) e = rw (keeps k g a e) ((laws k).update-update f g a)
