-- Walks through layers and those that stand in them, one step at a time.
use Rattle.std.proofs.Common.{◌≡◌, ◌≢◌, ℕ, zero, suc, ◌+◌, ◌-◌, ◌≤◌, List, [], ◌∷◌, length, cond, true, false, Option, Some, None, is_some, IsSome, IsSomeAnd}
use Rattle.std.proofs.Common.{option_map, option_and_then, find, refl, sym, ap, ◌∙◌, arith}
use Rattle.std.specs.List.{position, position_from, slice_get, slice_set}
use Rattle.std.proofs.lemmas.Iterator.Adapters.{position_from-zero}
use Rattle.std.proofs.lemmas.Bool.Decides.{nat_tests}
use Rattle.map_model.specs.declared.parts.Body.{Body}
use Rattle.map_model.specs.declared.parts.Layer.{Layer}
use Rattle.map_model.specs.Groups.{body_with_layers, change_among, change_one, find_one, group_of, has_id, holds, layer_among, drawn, tree}
use Rattle.map_model.specs.Keeping.{inner_tier, layer_tier}
use Rattle.map_model.specs.Layers.{place_among, place_inside, place_under}
use Rattle.map_model.specs.Lists.{first_some, or_else, or_empty}
use Rattle.map_model.proofs.Trees.{changed_below, change_one-is, found_below, find_one-is, length-drawn, tree-is}
use Rattle.map_model.proofs.Changes.{find-at_position, set-at_position}

-- ---- the layer with an id
pub find_one-own : (id groups : ℕ) (l : Layer) → l.id ≡ id → Some l ≡ find_one id groups l
find_one-own id groups l e = let own : has_id id l ≡ true = grind (arith, nat_tests, e) in sym (find_one-is id groups l ∙ rw own refl)

find_one-other : (id groups : ℕ) (l : Layer) → l.id ≢ id → found_below id groups l ≡ find_one id groups l
find_one-other id groups l e = let other : has_id id l ≡ false = grind (arith, nat_tests, e) in sym (find_one-is id groups l ∙ rw other refl)

-- where a look-up gives something, there is a place at which it does
position_from-first_some : {X Y : Type 0} (f : X → Option Y) (xs : List X) (i : ℕ)
    → is_some (position_from (λ x. is_some (f x)) i xs) ≡ is_some (first_some f xs)
position_from-first_some f [] i = refl
position_from-first_some {Y = Y} f (x ∷ xs) i = by_first (f x) (position_from-first_some f xs (i + 1))
  where
    by_first : (o : Option Y) → is_some (position_from (λ y. is_some (f y)) (i + 1) xs) ≡ is_some (first_some f xs)
        → is_some (cond (is_some o) (Some i) (position_from (λ y. is_some (f y)) (i + 1) xs)) ≡ is_some (or_else o (first_some f xs))
    by_first None h = h
    by_first (Some y) h = refl

pub position-first_some : {X Y : Type 0} (f : X → Option Y) (xs : List X) → is_some (position (λ x. is_some (f x)) xs) ≡ is_some (first_some f xs)
position-first_some f xs = ap is_some (position_from-zero (λ x. is_some (f x)) xs) ∙ position_from-first_some f xs 0

module _ (id : ℕ) where
  below-no_groups : (groups : ℕ) (l : Layer) → groups ≡ 0 → None ≡ found_below id groups l
  below-no_groups zero l e = refl
  below-no_groups (suc groups) l e = absurd (omega (arith, e))

  below-no_group : (groups : ℕ) (l : Layer) → group_of l ≡ None → None ≡ found_below id groups l
  below-no_group zero l e = refl
  below-no_group (suc groups) l e = ap (λ o. layer_among id groups (or_empty o)) (sym e)

  below-group : (groups : ℕ) (l : Layer) (ks : List Layer) → groups ≢ 0 → group_of l ≡ Some ks → layer_among id (groups - 1) ks ≡ found_below id groups l
  below-group zero l ks e g = absurd (e refl)
  below-group (suc groups) l ks e g =
      let same : suc groups - 1 ≡ groups = omega arith in
      ap (λ n. layer_among id n ks) same ∙ ap (λ o. layer_among id groups (or_empty o)) (sym g)

  pub find_one-no_groups : (groups : ℕ) (l : Layer) → l.id ≢ id → groups ≡ 0 → None ≡ find_one id groups l
  find_one-no_groups groups l e z = below-no_groups groups l z ∙ find_one-other id groups l e

  pub find_one-no_group : (groups : ℕ) (l : Layer) → l.id ≢ id → group_of l ≡ None → None ≡ find_one id groups l
  find_one-no_group groups l e g = below-no_group groups l g ∙ find_one-other id groups l e

  pub find_one-group : (groups : ℕ) (l : Layer) (ks : List Layer) → l.id ≢ id → groups ≢ 0 → group_of l ≡ Some ks
      → layer_among id (groups - 1) ks ≡ find_one id groups l
  find_one-group groups l ks e z g = below-group groups l ks z g ∙ find_one-other id groups l e

  -- ---- whether a layer has the id, or one that stands in it
  pub holds-own : (groups : ℕ) (l : Layer) → l.id ≡ id → true ≡ holds id groups l
  holds-own groups l e = ap is_some (find_one-own id groups l e)

  pub holds-no_groups : (groups : ℕ) (l : Layer) → l.id ≢ id → groups ≡ 0 → false ≡ holds id groups l
  holds-no_groups groups l e z = ap is_some (find_one-no_groups groups l e z)

  pub holds-no_group : (groups : ℕ) (l : Layer) → l.id ≢ id → group_of l ≡ None → false ≡ holds id groups l
  holds-no_group groups l e g = ap is_some (find_one-no_group groups l e g)

  pub holds-group : (groups : ℕ) (l : Layer) (ks : List Layer) → l.id ≢ id → groups ≢ 0 → group_of l ≡ Some ks
      → is_some (position (holds id (groups - 1)) ks) ≡ holds id groups l
  holds-group groups l ks e z g = position-first_some (find_one id (groups - 1)) ks ∙ ap is_some (find_one-group groups l ks e z g)

-- ---- the place of a layer
-- no layer stands in an empty list
pub place_among-none : (id groups : ℕ) (parent : Option ℕ) → place_among id groups parent [] ≡ None
unfolding place_among
place_among-none id zero parent = refl
place_among-none id (suc groups) parent = refl

pub place_inside-no_group : (id groups : ℕ) (l : Layer) → group_of l ≡ None → place_inside id groups l ≡ None
place_inside-no_group id groups l g = ap (λ o. place_among id groups (Some l.id) (or_empty o)) g ∙ place_among-none id groups (Some l.id)

pub place_inside-group : (id groups : ℕ) (l : Layer) (ks : List Layer) → group_of l ≡ Some ks → place_among id groups (Some l.id) ks ≡ place_inside id groups l
place_inside-group id groups l ks g = ap (λ o. place_among id groups (Some l.id) (or_empty o)) (sym g)

pub place_among-own : (id groups : ℕ) (parent : Option ℕ) (ls : List Layer) (at : ℕ) → position (has_id id) ls ≡ Some at
    → Some (place_under parent at) ≡ place_among id groups parent ls
unfolding place_among
place_among-own id zero parent ls at e = ap (option_map (place_under parent)) (sym e)
place_among-own id (suc groups) parent ls at e = ap (λ o. or_else (option_map (place_under parent) o) (first_some (place_inside id groups) ls)) (sym e)

pub place_among-within : (id groups : ℕ) (parent : Option ℕ) (ls : List Layer) → groups ≢ 0 → position (has_id id) ls ≡ None
    → first_some (place_inside id (groups - 1)) ls ≡ place_among id groups parent ls
unfolding place_among
place_among-within id zero parent ls z e = absurd (z refl)
place_among-within id (suc groups) parent ls z e =
    let same : suc groups - 1 ≡ groups = omega arith in
    ap (λ n. first_some (place_inside id n) ls) same ∙ ap (λ o. or_else (option_map (place_under parent) o) (first_some (place_inside id groups) ls)) (sym e)

pub place_among-no_groups : (id groups : ℕ) (parent : Option ℕ) (ls : List Layer) → groups ≡ 0 → position (has_id id) ls ≡ None
    → None ≡ place_among id groups parent ls
unfolding place_among
place_among-no_groups id zero parent ls z e = ap (option_map (place_under parent)) (sym e)
place_among-no_groups id (suc groups) parent ls z e = absurd (omega (arith, z))

-- ---- how many layers stand in one
pub count-no_groups : (groups tier : ℕ) (l : Layer) → groups ≡ 0 → 1 ≡ length (tree groups tier l)
count-no_groups zero tier l z = sym (ap length (tree-is zero tier l))
count-no_groups (suc groups) tier l z = absurd (omega (arith, z))

pub count-no_group : (groups tier : ℕ) (l : Layer) → group_of l ≡ None → 1 ≡ length (tree groups tier l)
count-no_group zero tier l g = sym (ap length (tree-is zero tier l))
count-no_group (suc groups) tier l g = sym (ap length (tree-is (suc groups) tier l) ∙ ap (λ o. suc (length (drawn groups (inner_tier tier) (or_empty o)))) g)

pub count-group : (groups : ℕ) (l : Layer) (ks : List Layer) → groups ≢ 0 → group_of l ≡ Some ks
    → suc (length (drawn (groups - 1) layer_tier ks)) ≡ length (tree groups layer_tier l)
count-group zero l ks z g = absurd (z refl)
count-group (suc groups) l ks z g =
    let same : suc groups - 1 ≡ groups = omega arith in
    ap (λ n. suc (length (drawn n layer_tier ks))) same ∙ ap suc (length-drawn groups layer_tier (inner_tier layer_tier) ks)
    ∙ sym (ap length (tree-is (suc groups) layer_tier l) ∙ ap (λ o. suc (length (drawn groups (inner_tier layer_tier) (or_empty o)))) g)

-- ---- a change where the layer stands
-- what a look-up gives of the first element for which it gives something
pub first_some-at : {X Y : Type 0} (f : X → Option Y) (xs : List X) (at : ℕ) (x : X) → position (λ y. is_some (f y)) xs ≡ Some at → slice_get xs at ≡ Some x
    → (first_some f xs ≡ f x) × (is_some (f x) ≡ true)
first_some-at {X = X} {Y = Y} f xs at x e g = by_find xs (find-at_position (λ y. is_some (f y)) xs at x e g)
  where
    by_find : (zs : List X) → find (λ y. is_some (f y)) zs ≡ Some x → (first_some f zs ≡ f x) × (is_some (f x) ≡ true)
    by_find [] h = cc
    by_find (z ∷ zs) h = by_own (f z) refl h (by_find zs)
      where
        by_own : (o : Option Y) → f z ≡ o → cond (is_some o) (Some z) (find (λ y. is_some (f y)) zs) ≡ Some x
            → (find (λ y. is_some (f y)) zs ≡ Some x → (first_some f zs ≡ f x) × (is_some (f x) ≡ true))
            → (or_else o (first_some f zs) ≡ f x) × (is_some (f x) ≡ true)
        by_own None q k later = later k
        by_own (Some y) q k later = let is : z ≡ x = cc in (sym q ∙ ap f is, ap is_some (sym (ap f is) ∙ q))

module _ (id groups : ℕ) (ls : List Layer) (at : ℕ) (l : Layer) (place : position (holds id groups) ls ≡ Some at) (there : slice_get ls at ≡ Some l) where
  -- the layer that stands there has the id
  module _ (own : l.id ≡ id) where
    pub own-found : layer_among id groups ls ≡ Some l
    own-found = (first_some-at (find_one id groups) ls at l place there).0 ∙ sym (find_one-own id groups l own)

    pub own-changed : (new : Layer) → slice_set ls at new ≡ change_among id groups (λ k. new) ls
    own-changed new =
        let has : has_id id l ≡ true = grind (arith, nat_tests, own) in
        ap (slice_set ls at) (sym (change_one-is id groups (λ k. new) l ∙ rw has refl))
        ∙ set-at_position (holds id groups) (change_one id groups (λ k. new)) ls at l place there

  -- or one that stands in it
  module _ (other : l.id ≢ id) where
    other-below : (found_below id groups l ≡ layer_among id groups ls) × (is_some (found_below id groups l) ≡ true)
    other-below =
        let first = first_some-at (find_one id groups) ls at l place there in
        let below = find_one-other id groups l other in
        (below ∙ sym first.0, ap is_some below ∙ first.1)

    pub other-groups : 1 ≤ groups
    other-groups = by_groups groups (other-below.1)
      where
        by_groups : (n : ℕ) → is_some (found_below id n l) ≡ true → 1 ≤ n
        by_groups zero q = cc
        by_groups (suc n) q = omega arith

    pub other-found : option_and_then (layer_among id (groups - 1)) (group_of l) ≡ layer_among id groups ls
    other-found = by_groups groups other-groups other-below.0
      where
        by_group : (n : ℕ) (o : Option (List Layer)) → option_and_then (layer_among id n) o ≡ layer_among id n (or_empty o)
        by_group n None = refl
        by_group n (Some ks) = refl

        by_groups : (n : ℕ) → 1 ≤ n → found_below id n l ≡ layer_among id groups ls
            → option_and_then (layer_among id (n - 1)) (group_of l) ≡ layer_among id groups ls
        by_groups zero low q = absurd (omega (arith, low))
        by_groups (suc n) low q = let same : suc n - 1 ≡ n = omega arith in ap (λ k. option_and_then (layer_among id k) (group_of l)) same
            ∙ by_group n (group_of l) ∙ q

    pub other-changed : (new : Body) (left : Layer) → new ≡ body_with_layers (change_among id (groups - 1) (λ k. left)) l.body
        → slice_set ls at (record l { body = new }) ≡ change_among id groups (λ k. left) ls
    other-changed new left is =
        let passed : has_id id l ≡ false = grind (arith, nat_tests, other) in
        ap (slice_set ls at) (by_groups groups other-groups is ∙ sym (change_one-is id groups (λ k. left) l ∙ rw passed refl))
        ∙ set-at_position (holds id groups) (change_one id groups (λ k. left)) ls at l place there
      where
        by_groups : (n : ℕ) → 1 ≤ n → new ≡ body_with_layers (change_among id (n - 1) (λ k. left)) l.body
            → record l { body = new } ≡ changed_below id n (λ k. left) l
        by_groups zero q e = absurd (omega (arith, q))
        by_groups (suc n) q e = let same : suc n - 1 ≡ n = omega arith in
            λ i. record l { body = (e ∙ ap (λ k. body_with_layers (change_among id k (λ j. left)) l.body) same) i }

-- where one is found inside a layer, it is a group
pub some_inside : (id groups : ℕ) (l : Layer) → IsSome (option_and_then (layer_among id groups) (group_of l))
    → IsSomeAnd (group_of l) (λ ls. IsSome (layer_among id groups ls))
some_inside id groups l h = by_group (group_of l) h
  where
    by_group : (o : Option (List Layer)) → IsSome (option_and_then (layer_among id groups) o) → IsSomeAnd o (λ ls. IsSome (layer_among id groups ls))
    by_group None q = cc
    by_group (Some ls) q = q
