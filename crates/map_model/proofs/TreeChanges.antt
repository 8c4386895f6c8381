-- Changes of the layer with an id, one after another.
use Rattle.std.proofs.Common.{◌≡◌, ℕ, zero, suc, List, [], ◌∷◌, nat_eq, Bool, true, false, cond, Option, Some, None, is_some, IsSomeAnd, option_map, refl, ap}
use Rattle.std.proofs.Common.{◌∙◌}
use Rattle.map_model.specs.declared.limits.TheConstants.{MAX_GROUPS}
use Rattle.map_model.specs.declared.parts.Layer.{Layer}
use Rattle.map_model.specs.declared.parts.MapParts.{MapParts}
use Rattle.map_model.specs.Lookups.{with_layer}
use Rattle.map_model.specs.Groups.{has_id, inside, find_one, layer_among, holds, change_one, change_among}
use Rattle.map_model.specs.Lists.{change_first, or_else}
use Rattle.map_model.proofs.GroupBodies.{inside-with, body_with_layers-twice, body_with_layers-along, body_with_layers-same}
use Rattle.map_model.proofs.Trees.{found_below, changed_below, find_one-is, change_one-is}
use Rattle.map_model.proofs.FirstChanges.{change_first-change_first, change_first-same}

-- ---- the layer that is found behind a change
module _ (id : ℕ) (g : Layer → Layer) (stays : (l : Layer) → (g l).id ≡ l.id) where
  own_id : (l : Layer) → has_id id (g l) ≡ has_id id l
  own_id l = ap (λ n. nat_eq n id) (stays l)

  found_list : (groups : ℕ) → ((l : Layer) → find_one id groups (change_one id groups g l) ≡ option_map g (find_one id groups l))
      → (ls : List Layer) → layer_among id groups (change_among id groups g ls) ≡ option_map g (layer_among id groups ls)
  found_list groups one [] = refl
  found_list groups one (l ∷ ls) = by_one (find_one id groups l) refl (found_list groups one ls)
    where
      by_one : (o : Option Layer) → find_one id groups l ≡ o → layer_among id groups (change_among id groups g ls) ≡ option_map g (layer_among id groups ls)
          → layer_among id groups (cond (holds id groups l) (change_one id groups g l ∷ ls) (l ∷ change_among id groups g ls))
          ≡ option_map g (or_else (find_one id groups l) (layer_among id groups ls))
      by_one None q later = rw q (rw q later)
      by_one (Some k) q later = rw q (rw (one l, q) refl)

  found_own : (groups : ℕ) (l : Layer) → (has_id id l ≡ false → found_below id groups (changed_below id groups g l) ≡ option_map g (found_below id groups l))
      → (has_id id (changed_below id groups g l) ≡ has_id id l) → find_one id groups (change_one id groups g l) ≡ option_map g (find_one id groups l)
  found_own groups l deeper same = rw (change_one-is id groups g l, find_one-is id groups l) (by_own (has_id id l) refl)
    where
      by_own : (b : Bool) → has_id id l ≡ b → find_one id groups (cond b (g l) (changed_below id groups g l))
          ≡ option_map g (cond b (Some l) (found_below id groups l))
      by_own true q = find_one-is id groups (g l) ∙ rw (own_id l, q) refl
      by_own false q = find_one-is id groups (changed_below id groups g l) ∙ rw (same, q) (deeper q)

  pub find_one-change_one : (groups : ℕ) (l : Layer) → find_one id groups (change_one id groups g l) ≡ option_map g (find_one id groups l)
  find_one-change_one zero l = found_own zero l (λ q. refl) refl
  find_one-change_one (suc groups) l =
      found_own (suc groups) l
      (λ q. ap (layer_among id groups) (inside-with (change_among id groups g) refl l) ∙ found_list groups (find_one-change_one groups) (inside l))
      refl

  pub layer_among-change_among : (groups : ℕ) (ls : List Layer) → layer_among id groups (change_among id groups g ls) ≡ option_map g (layer_among id groups ls)
  layer_among-change_among groups ls = found_list groups (find_one-change_one groups) ls

  holds-change_one : (groups : ℕ) (l : Layer) → holds id groups (change_one id groups g l) ≡ holds id groups l
  holds-change_one groups l = ap is_some (find_one-change_one groups l) ∙ by_found (find_one id groups l)
    where
      by_found : (o : Option Layer) → is_some (option_map g o) ≡ is_some o
      by_found None = refl
      by_found (Some k) = refl

  -- ---- one change after another
  twice_list : (groups : ℕ) (f : Layer → Layer) → ((l : Layer) → change_one id groups f (change_one id groups g l) ≡ change_one id groups (λ k. f (g k)) l)
      → (ls : List Layer) → change_among id groups f (change_among id groups g ls) ≡ change_among id groups (λ k. f (g k)) ls
  twice_list groups f one ls =
      change_first-change_first (holds id groups) (change_one id groups f) (change_one id groups g) (holds-change_one groups) ls
      ∙ (λ i. change_first (holds id groups) (λ l. one l i) ls)

  twice_own : (groups : ℕ) (f : Layer → Layer) (l : Layer) → changed_below id groups f (changed_below id groups g l) ≡ changed_below id groups (λ k. f (g k)) l
      → (has_id id (changed_below id groups g l) ≡ has_id id l) → change_one id groups f (change_one id groups g l) ≡ change_one id groups (λ k. f (g k)) l
  twice_own groups f l deeper same = rw (change_one-is id groups g l, change_one-is id groups (λ k. f (g k)) l) (by_own (has_id id l) refl)
    where
      by_own : (b : Bool) → has_id id l ≡ b → change_one id groups f (cond b (g l) (changed_below id groups g l))
          ≡ cond b (f (g l)) (changed_below id groups (λ k. f (g k)) l)
      by_own true q = change_one-is id groups f (g l) ∙ rw (own_id l, q) refl
      by_own false q = change_one-is id groups f (changed_below id groups g l) ∙ rw (same, q) deeper

  pub change_one-change_one : (groups : ℕ) (f : Layer → Layer) (l : Layer)
      → change_one id groups f (change_one id groups g l) ≡ change_one id groups (λ k. f (g k)) l
  change_one-change_one zero f l = twice_own zero f l refl refl
  change_one-change_one (suc groups) f l =
      twice_own (suc groups) f l
      (λ i. record l {
        body = (body_with_layers-twice (change_among id groups f) (change_among id groups g) l.body
            ∙ body_with_layers-along (λ ks. change_among id groups f (change_among id groups g ks)) (change_among id groups (λ k. f (g k))) l.body
            (λ ks e. twice_list groups f (change_one-change_one groups f) ks)) i;
      })
      refl

  pub change_among-change_among : (groups : ℕ) (f : Layer → Layer) (ls : List Layer)
      → change_among id groups f (change_among id groups g ls) ≡ change_among id groups (λ k. f (g k)) ls
  change_among-change_among groups f ls = twice_list groups f (change_one-change_one groups f) ls

-- ---- two changes that agree on the layer that is found
module _ (id : ℕ) (f g : Layer → Layer) where
  along_list : (groups : ℕ) → ((l : Layer) → ((k : Layer) → find_one id groups l ≡ Some k → f k ≡ g k) → change_one id groups f l ≡ change_one id groups g l)
      → (ls : List Layer) → ((k : Layer) → layer_among id groups ls ≡ Some k → f k ≡ g k) → change_among id groups f ls ≡ change_among id groups g ls
  along_list groups one [] h = refl
  along_list groups one (l ∷ ls) h = by_one (find_one id groups l) refl h (along_list groups one ls)
    where
      by_one : (o : Option Layer) → find_one id groups l ≡ o → ((k : Layer) → or_else (find_one id groups l) (layer_among id groups ls) ≡ Some k → f k ≡ g k)
          → (((k : Layer) → layer_among id groups ls ≡ Some k → f k ≡ g k) → change_among id groups f ls ≡ change_among id groups g ls)
          → cond (holds id groups l) (change_one id groups f l ∷ ls) (l ∷ change_among id groups f ls)
          ≡ cond (holds id groups l) (change_one id groups g l ∷ ls) (l ∷ change_among id groups g ls)
      by_one None q k later = rw q (ap (λ ks. l ∷ ks) (later (λ j e. k j (rw q e))))
      by_one (Some found) q k later = rw q (ap (λ j. j ∷ ls) (one l (λ j e. k j (ap (λ o. or_else o (layer_among id groups ls)) e))))

  along_own : (groups : ℕ) (l : Layer) → ((k : Layer) → find_one id groups l ≡ Some k → f k ≡ g k)
      → (((k : Layer) → found_below id groups l ≡ Some k → f k ≡ g k) → changed_below id groups f l ≡ changed_below id groups g l)
      → change_one id groups f l ≡ change_one id groups g l
  along_own groups l h deeper = rw (change_one-is id groups f l, change_one-is id groups g l) (by_own (has_id id l) refl)
    where
      by_own : (b : Bool) → has_id id l ≡ b → cond b (f l) (changed_below id groups f l) ≡ cond b (g l) (changed_below id groups g l)
      by_own true q = h l (find_one-is id groups l ∙ rw q refl)
      by_own false q = deeper (λ k e. h k (find_one-is id groups l ∙ rw q e))

  pub change_one-along : (groups : ℕ) (l : Layer) → ((k : Layer) → find_one id groups l ≡ Some k → f k ≡ g k)
      → change_one id groups f l ≡ change_one id groups g l
  change_one-along zero l h = along_own zero l h (λ k. refl)
  change_one-along (suc groups) l h =
      along_own (suc groups) l h
      (λ k i. record l {
        body = body_with_layers-along (change_among id groups f) (change_among id groups g) l.body
            (λ ks e. along_list groups (change_one-along groups) ks (λ j q. k j (rw e q))) i;
      })

  pub change_among-along : (groups : ℕ) (ls : List Layer) → ((k : Layer) → layer_among id groups ls ≡ Some k → f k ≡ g k)
      → change_among id groups f ls ≡ change_among id groups g ls
  change_among-along groups ls h = along_list groups (change_one-along groups) ls h

-- ---- a change that changes nothing
same_own : (id groups : ℕ) (l : Layer) → changed_below id groups (λ k. k) l ≡ l → change_one id groups (λ k. k) l ≡ l
same_own id groups l deeper = rw (change_one-is id groups (λ k. k) l) (by_own (has_id id l))
  where
    by_own : (b : Bool) → cond b l (changed_below id groups (λ k. k) l) ≡ l
    by_own true = refl
    by_own false = deeper

same_list : (id groups : ℕ) → ((l : Layer) → change_one id groups (λ k. k) l ≡ l) → (ls : List Layer) → change_among id groups (λ k. k) ls ≡ ls
same_list id groups each ls = (λ i. change_first (holds id groups) (λ k. each k i) ls) ∙ change_first-same (holds id groups) ls

pub change_one-same : (id groups : ℕ) (l : Layer) → change_one id groups (λ k. k) l ≡ l
change_one-same id zero l = same_own id zero l refl
change_one-same id (suc groups) l =
    same_own id (suc groups) l
    (λ i. record l {
      body = (body_with_layers-along (change_among id groups (λ k. k)) (λ ks. ks) l.body (λ ks e. same_list id groups (change_one-same id groups) ks)
          ∙ body_with_layers-same l.body) i;
    })

pub change_among-same : (id groups : ℕ) (ls : List Layer) → change_among id groups (λ k. k) ls ≡ ls
change_among-same id groups ls = same_list id groups (change_one-same id groups) ls

-- ---- a layer that was changed where it stands
-- what was left there is f of the layer
pub changed_by : (id groups : ℕ) (f : Layer → Layer) (old new : List Layer) (layer left : Layer) → layer_among id groups old ≡ Some layer
    → new ≡ change_among id groups (λ own. left) old → left ≡ f layer
    → new ≡ change_among id groups f old
changed_by id groups f old new layer left found is same =
    is ∙ change_among-along id (λ own. left) f groups old (λ k e. let here : layer ≡ k = cc (found, e) in same ∙ ap f here)

-- what was left there is f of the layer and of an item that was put in
pub changed_with : {X : Type 0} (id groups : ℕ) (f : X → Layer → Layer) (item : Option X) (old new : List Layer) (layer left : Layer)
    → layer_among id groups old ≡ Some layer
    → new ≡ change_among id groups (λ own. left) old → IsSomeAnd item (λ x. left ≡ f x layer) → IsSomeAnd item (λ x. new ≡ change_among id groups (f x) old)
changed_with id groups f None old new layer left found is h = h
changed_with id groups f (Some x) old new layer left found is h = changed_by id groups (f x) old new layer left found is h

-- the map with the layers in which it was changed
pub changed_map : {X : Type 0} (id : ℕ) (f : X → Layer → Layer) (item : Option X) (m : MapParts) (new : List Layer)
    → IsSomeAnd item (λ x. new ≡ change_among id MAX_GROUPS (f x) m.layers)
    → IsSomeAnd item (λ x. record m { layers = new } ≡ with_layer id (f x) m)
changed_map id f None m new h = h
changed_map id f (Some x) m new h = ap (λ ls. record m { layers = ls }) h
