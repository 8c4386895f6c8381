-- Trees of layers with other values in them.
use Rattle.std.proofs.Common.{◌≡◌, ℕ, zero, suc, ◌-◌, ◌≤◌, arith, List, [], ◌∷◌, ◌++◌, map, option_map, Option, Some, None, refl, sym, ap, ◌∙◌}
use Rattle.std.specs.Prelude.{option_to_list}
use Rattle.std.specs.List.{flat_map}
use Rattle.std.proofs.lemmas.List.{map-append}
use Rattle.map_model.specs.declared.parts.Body.{Body}
use Rattle.map_model.specs.declared.parts.Body.TheVariants.{Tiles, Objects}
use Rattle.map_model.specs.declared.parts.Layer.{Layer}
use Rattle.map_model.specs.declared.parts.Object.{Object}
use Rattle.map_model.specs.Groups.{bare, body_with_layers, drawn, group_in, inside, layer_with_layers, tree}
use Rattle.map_model.specs.Keeping.{inner_tier, layer_tier}
use Rattle.map_model.specs.Lists.{Each, or_empty}
use Rattle.map_model.specs.Renumbering.{body_with_values, layer_with_values, layers_with_values, object_with_value, one_with_values}
use Rattle.map_model.specs.Tilesets.{gids_of, values_in, values_of}
use Rattle.map_model.proofs.BodyLaws.{body_with_contents-with, group_in-contents}
use Rattle.map_model.proofs.GroupBodies.{bare-with, body_with_layers-along, body_with_layers-same, body_with_layers-twice, inside-with}
use Rattle.map_model.proofs.Listings.{Each-append, Each-prefix, Each-rest}
use Rattle.map_model.proofs.Trees.{tree-is}

-- ---- one step
abbrev pub values_below : ℕ → (ℕ → ℕ) → Layer → Layer
values_below zero f l = layer_with_values f l
values_below (suc groups) f l = layer_with_layers (layers_with_values groups f) (layer_with_values f l)

pub one_with_values-is : (groups : ℕ) (f : ℕ → ℕ) (l : Layer) → one_with_values groups f l ≡ values_below groups f l
unfolding one_with_values
one_with_values-is zero f l = refl
one_with_values-is (suc groups) f l = refl

-- ---- the list in drawing order
abbrev pub drawn_with : (ℕ → ℕ) → ℕ × Layer → ℕ × Layer
drawn_with f d = (d.0, layer_with_values f d.1)

bare-values : (f : ℕ → ℕ) (l : Layer) → bare (layer_with_values f l) ≡ layer_with_values f (bare l)
bare-values f l = λ i. record l { body = sym (body_with_contents-with (map f) (map (object_with_value f)) (λ ls. []) l.body) i }

inside-values : (f : ℕ → ℕ) (l : Layer) → inside (layer_with_values f l) ≡ inside l
inside-values f l = ap or_empty (group_in-contents (map f) (map (object_with_value f)) l.body)

drawn-list : (groups : ℕ) (f : ℕ → ℕ) → ((tier : ℕ) (l : Layer) → tree groups tier (one_with_values groups f l) ≡ map (drawn_with f) (tree groups tier l))
    → (tier : ℕ) (ls : List Layer) → drawn groups tier (layers_with_values groups f ls) ≡ map (drawn_with f) (drawn groups tier ls)
drawn-list groups f each tier [] = refl
drawn-list groups f each tier (l ∷ ls) =
    (λ i. each tier l i ++ drawn-list groups f each tier ls i) ∙ sym (map-append (drawn_with f) (tree groups tier l) (drawn groups tier ls))

pub tree-with_values : (groups : ℕ) (f : ℕ → ℕ) (tier : ℕ) (l : Layer)
    → tree groups tier (one_with_values groups f l) ≡ map (drawn_with f) (tree groups tier l)
tree-with_values zero f tier l =
    ap (tree zero tier) (one_with_values-is zero f l) ∙ tree-is zero tier (layer_with_values f l) ∙ ap (λ k. (tier, k) ∷ []) (bare-values f l)
    ∙ sym (ap (map (drawn_with f)) (tree-is zero tier l))
tree-with_values (suc groups) f tier l =
    let g = layers_with_values groups f in
    ap (tree (suc groups) tier) (one_with_values-is (suc groups) f l) ∙ tree-is (suc groups) tier (layer_with_layers g (layer_with_values f l))
    ∙ (λ i. (tier, (bare-with g (layer_with_values f l) ∙ bare-values f l) i) ∷ drawn groups (inner_tier tier)
    ((inside-with g refl (layer_with_values f l) ∙ ap g (inside-values f l)) i))
    ∙ ap (λ zs. (tier, layer_with_values f (bare l)) ∷ zs) (drawn-list groups f (tree-with_values groups f) (inner_tier tier) (inside l))
    ∙ sym (ap (map (drawn_with f)) (tree-is (suc groups) tier l))

pub drawn-with_values : (groups : ℕ) (f : ℕ → ℕ) (tier : ℕ) (ls : List Layer)
    → drawn groups tier (layers_with_values groups f ls) ≡ map (drawn_with f) (drawn groups tier ls)
drawn-with_values groups f tier ls = drawn-list groups f (tree-with_values groups f) tier ls

-- ---- the values of a tree, which its tier does not change
-- P of each value of each layer
abbrev pub EachValue : (ℕ → Type 0) → List (ℕ × Layer) → Type 0
EachValue P ds = Each (λ d. Each P (values_of d)) ds

module _ (P : ℕ → Type 0) where
  values-list : (groups : ℕ) → ((a b : ℕ) (l : Layer) → EachValue P (tree groups a l) → EachValue P (tree groups b l))
      → (a b : ℕ) (ls : List Layer) → EachValue P (drawn groups a ls) → EachValue P (drawn groups b ls)
  values-list groups each a b [] h = tt
  values-list groups each a b (l ∷ ls) h =
      Each-append (λ d. Each P (values_of d)) (tree groups b l) (drawn groups b ls)
      (each a b l (Each-prefix (λ d. Each P (values_of d)) (tree groups a l) (drawn groups a ls) h))
      (values-list groups each a b ls (Each-rest (λ d. Each P (values_of d)) (tree groups a l) (drawn groups a ls) h))

  values-tier : (groups a b : ℕ) (l : Layer) → EachValue P (tree groups a l) → EachValue P (tree groups b l)
  values-tier zero a b l h = rw (tree-is zero b l) (rw (tree-is zero a l) at h)
  values-tier (suc groups) a b l h =
      let own = rw (tree-is (suc groups) a l) at h in
      rw (tree-is (suc groups) b l) (own.0, values-list groups (values-tier groups) (inner_tier a) (inner_tier b) (inside l) own.1)

  pub values-drawn : (groups a b : ℕ) (ls : List Layer) → EachValue P (drawn groups a ls) → EachValue P (drawn groups b ls)
  values-drawn groups a b ls h = values-list groups (values-tier groups) a b ls h

-- P of what each element of a list has
pub Each-of : {X A : Type 0} (P : A → Type 0) (g : X → List A) (xs : List X) → Each P (flat_map g xs) → Each (λ x. Each P (g x)) xs
Each-of P g [] h = tt
Each-of P g (x ∷ xs) h = (Each-prefix P (g x) (flat_map g xs) h, Each-of P g xs (Each-rest P (g x) (flat_map g xs) h))

-- ---- undone
-- g undoes f at a value
abbrev pub Undoes : (ℕ → ℕ) → (ℕ → ℕ) → ℕ → Type 0
Undoes g f v = g (f v) ≡ v

module _ (f g : ℕ → ℕ) where
  cells-back : (vs : List ℕ) → Each (Undoes g f) vs → map g (map f vs) ≡ vs
  cells-back [] h = refl
  cells-back (v ∷ vs) h = λ i. h.0 i ∷ cells-back vs h.1 i

  gid-back : (o : Option ℕ) → Each (Undoes g f) (option_to_list o) → option_map g (option_map f o) ≡ o
  gid-back None h = refl
  gid-back (Some v) h = ap Some h.0

  objects-back : (os : List Object) → Each (Undoes g f) (flat_map gids_of os) → map (object_with_value g) (map (object_with_value f) os) ≡ os
  objects-back [] h = refl
  objects-back (o ∷ os) h =
      let own = Each-prefix (Undoes g f) (gids_of o) (flat_map gids_of os) h in
      let rest = Each-rest (Undoes g f) (gids_of o) (flat_map gids_of os) h in
      λ i. record o { gid = gid-back o.gid own i } ∷ objects-back os rest i

  body-back : (b : Body) → Each (Undoes g f) (values_in b) → body_with_values g (body_with_values f b) ≡ b
  body-back (Tiles e cells) h = ap (Tiles e) (cells-back cells h)
  body-back (Objects os) h = ap Objects (objects-back os h)
  body-back b h = refl

  values_in-bare : (b : Body) → values_in (body_with_layers (λ ls. []) b) ≡ values_in b
  values_in-bare (Tiles e cells) = refl
  values_in-bare b = refl

  back-list : (groups : ℕ) → ((l : Layer) → EachValue (Undoes g f) (tree groups layer_tier l) → one_with_values groups g (one_with_values groups f l) ≡ l)
      → (ls : List Layer) → EachValue (Undoes g f) (drawn groups layer_tier ls) → layers_with_values groups g (layers_with_values groups f ls) ≡ ls
  back-list groups each [] h = refl
  back-list groups each (l ∷ ls) h =
      let own = Each-prefix (λ d. Each (Undoes g f) (values_of d)) (tree groups layer_tier l) (drawn groups layer_tier ls) h in
      let rest = Each-rest (λ d. Each (Undoes g f) (values_of d)) (tree groups layer_tier l) (drawn groups layer_tier ls) h in
      λ i. each l own i ∷ back-list groups each ls rest i

  back-one : (groups : ℕ) (l : Layer) → EachValue (Undoes g f) (tree groups layer_tier l) → one_with_values groups g (one_with_values groups f l) ≡ l
  back-one zero l h =
      let own = rw (values_in-bare l.body) at (rw (tree-is zero layer_tier l) at h).0 in
      ap (one_with_values zero g) (one_with_values-is zero f l) ∙ one_with_values-is zero g (layer_with_values f l)
      ∙ (λ i. record l { body = body-back l.body own i })
  back-one (suc groups) l h =
      let b = l.body in
      let seen = rw (tree-is (suc groups) layer_tier l) at h in
      let own = rw (values_in-bare b) at seen.0 in
      let below = values-drawn (Undoes g f) groups (inner_tier layer_tier) layer_tier (inside l) seen.1 in
      let p = layers_with_values groups f in
      let q = layers_with_values groups g in
      let body : body_with_layers q (body_with_values g (body_with_layers p (body_with_values f b))) ≡ b =
      ap (body_with_layers q) (body_with_contents-with (map g) (map (object_with_value g)) p (body_with_values f b))
      ∙ body_with_layers-twice q p (body_with_values g (body_with_values f b))
      ∙ ap (body_with_layers (λ ls. q (p ls))) (body-back b own)
      ∙ body_with_layers-along (λ ls. q (p ls)) (λ ls. ls) b
      (λ ls e. let same : inside l ≡ ls = ap or_empty e in rw (← same) (back-list groups (back-one groups) (inside l) below))
      ∙ body_with_layers-same b in
      ap (one_with_values (suc groups) g) (one_with_values-is (suc groups) f l)
      ∙ one_with_values-is (suc groups) g (layer_with_layers p (layer_with_values f l))
      ∙ (λ i. record l { body = body i })

  pub back-layers : (groups : ℕ) (ls : List Layer) → EachValue (Undoes g f) (drawn groups layer_tier ls)
      → layers_with_values groups g (layers_with_values groups f ls) ≡ ls
  back-layers groups ls h = back-list groups (back-one groups) ls h

-- ---- one layer at a time
values_in-bare_of : (P : ℕ → Type 0) (b : Body) → Each P (values_in (body_with_layers (λ ls. []) b)) → Each P (values_in b)
values_in-bare_of P (Tiles e cells) h = h
values_in-bare_of P b h = h

pub own-values : (P : ℕ → Type 0) (groups tier : ℕ) (l : Layer) → EachValue P (tree groups tier l) → Each P (values_in l.body)
own-values P groups tier l h = values_in-bare_of P l.body (rw (tree-is groups tier l) at h).0

pub inside-values_of : (P : ℕ → Type 0) (groups : ℕ) (f : ℕ → ℕ) (l : Layer) (body : Body) → 1 ≤ groups → body ≡ body_with_values f l.body
    → EachValue P (tree groups layer_tier l) → EachValue P (drawn (groups - 1) layer_tier (or_empty (group_in body)))
inside-values_of P zero f l body some is h = absurd (omega (arith, some))
inside-values_of P (suc groups) f l body some is h =
    let same : or_empty (group_in body) ≡ inside l = ap (λ b. or_empty (group_in b)) is ∙ inside-values f l in
    let fewer : suc groups - 1 ≡ groups = omega arith in
    rw (same, fewer) (values-drawn P groups (inner_tier layer_tier) layer_tier (inside l) (rw (tree-is (suc groups) layer_tier l) at h).1)

pub alone-is : (groups : ℕ) (f : ℕ → ℕ) (l : Layer) (body : Body) → groups ≡ 0 → body ≡ body_with_values f l.body
    → record l { body = body } ≡ one_with_values groups f l
alone-is zero f l body none is = (λ i. record l { body = is i }) ∙ sym (one_with_values-is zero f l)
alone-is (suc groups) f l body none is = absurd (omega (arith, none))

pub below-is : (groups : ℕ) (f : ℕ → ℕ) (l : Layer) (own body : Body) → 1 ≤ groups → own ≡ body_with_values f l.body
    → body ≡ body_with_layers (layers_with_values (groups - 1) f) own → record l { body = body } ≡ one_with_values groups f l
below-is zero f l own body some is made = absurd (omega (arith, some))
below-is (suc groups) f l own body some is made =
    let fewer : suc groups - 1 ≡ groups = omega arith in
    (λ i. record l { body = (made ∙ (λ j. body_with_layers (layers_with_values (fewer j) f) (is j))) i }) ∙ sym (one_with_values-is (suc groups) f l)
