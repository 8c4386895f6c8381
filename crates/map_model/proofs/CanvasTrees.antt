-- Trees of layers that are put on a canvas, and undone.
use Rattle.std.proofs.Common.{◌≡◌, ℕ, zero, suc, ◌+◌, List, [], ◌∷◌, ◌++◌, length, append-nil, append_assoc, length-append, refl, sym, ap, ◌∙◌, arith}
use Rattle.std.specs.List.{flat_map}
use Rattle.std.proofs.lemmas.Grind.{flat_map-append}
use Rattle.map_model.specs.declared.canvas.Canvas.{Canvas}
use Rattle.map_model.specs.declared.parts.Body.{Body}
use Rattle.map_model.specs.declared.parts.Body.TheVariants.{Tiles}
use Rattle.map_model.specs.declared.parts.Layer.{Layer}
use Rattle.map_model.specs.Canvas.{body_on, cells_on, layer_on, layers_on, lists_in, lists_of, lists_under, objects_on, one_on}
use Rattle.map_model.specs.Groups.{bare, body_with_layers, drawn, inside, layer_with_layers, tree}
use Rattle.map_model.specs.Keeping.{inner_tier, layer_tier}
use Rattle.map_model.specs.Lists.{or_empty}
use Rattle.map_model.proofs.BodyLaws.{body_with_contents-with, group_in-contents}
use Rattle.map_model.proofs.GroupBodies.{bare-with, body_with_layers-along, body_with_layers-same, body_with_layers-twice, inside-with, lists_in-with}
use Rattle.map_model.proofs.Trees.{tree-is}

-- ---- one step
abbrev pub counted : ℕ → Layer → ℕ
counted groups l = length (lists_under groups l)

abbrev pub on_below : ℕ → Canvas → ℕ → Layer → Layer
on_below zero c number l = layer_on c number l
on_below (suc groups) c number l = layer_with_layers (layers_on groups c (number + length (lists_in l.body))) (layer_on c number l)

pub one_on-is : (groups : ℕ) (c : Canvas) (number : ℕ) (l : Layer) → one_on groups c number l ≡ on_below groups c number l
unfolding one_on
one_on-is zero c number l = refl
one_on-is (suc groups) c number l = refl

-- ---- bodies
lists_in-on : (c : Canvas) (number : ℕ) (b : Body) → length (lists_in (body_on c number b)) ≡ length (lists_in b)
lists_in-on c number (Tiles e own) = refl
lists_in-on c number b = refl

-- ---- the cells of a tree, which its tier does not change
lists-list : (groups : ℕ) → ((a b : ℕ) (l : Layer) → flat_map lists_of (tree groups a l) ≡ flat_map lists_of (tree groups b l))
    → (a b : ℕ) (ls : List Layer) → flat_map lists_of (drawn groups a ls) ≡ flat_map lists_of (drawn groups b ls)
lists-list groups each a b [] = refl
lists-list groups each a b (l ∷ ls) =
    flat_map-append lists_of (tree groups a l) (drawn groups a ls) ∙ (λ i. each a b l i ++ lists-list groups each a b ls i)
    ∙ sym (flat_map-append lists_of (tree groups b l) (drawn groups b ls))

lists-tier : (groups a b : ℕ) (l : Layer) → flat_map lists_of (tree groups a l) ≡ flat_map lists_of (tree groups b l)
lists-tier zero a b l = ap (flat_map lists_of) (tree-is zero a l) ∙ sym (ap (flat_map lists_of) (tree-is zero b l))
lists-tier (suc groups) a b l =
    ap (flat_map lists_of) (tree-is (suc groups) a l)
    ∙ ap (λ xs. lists_in (bare l).body ++ xs) (lists-list groups (lists-tier groups) (inner_tier a) (inner_tier b) (inside l))
    ∙ sym (ap (flat_map lists_of) (tree-is (suc groups) b l))

pub lists-drawn : (groups a b : ℕ) (ls : List Layer) → flat_map lists_of (drawn groups a ls) ≡ flat_map lists_of (drawn groups b ls)
lists-drawn groups a b ls = lists-list groups (lists-tier groups) a b ls

-- the cells of a layer, and of those that stand in it
abbrev pub cells_below : ℕ → Layer → List (List ℕ)
cells_below zero l = []
cells_below (suc groups) l = flat_map lists_of (drawn groups layer_tier (inside l))

pub lists_under-is : (groups : ℕ) (l : Layer) → lists_under groups l ≡ lists_in l.body ++ cells_below groups l
lists_under-is zero l = ap (flat_map lists_of) (tree-is zero layer_tier l) ∙ ap (λ xs. xs ++ []) (lists_in-with (λ ls. []) l.body)
lists_under-is (suc groups) l =
    ap (flat_map lists_of) (tree-is (suc groups) layer_tier l)
    ∙ (λ i. lists_in-with (λ ls. []) l.body i ++ lists-drawn groups (inner_tier layer_tier) layer_tier (inside l) i)

pub lists_under-list : (groups : ℕ) (l : Layer) (ls : List Layer)
    → flat_map lists_of (drawn groups layer_tier (l ∷ ls)) ≡ lists_under groups l ++ flat_map lists_of (drawn groups layer_tier ls)
lists_under-list groups l ls = flat_map-append lists_of (tree groups layer_tier l) (drawn groups layer_tier ls)

-- ---- the list in drawing order
-- layers in drawing order, behind so many tile layers
abbrev pub drawn_on : Canvas → ℕ → List (ℕ × Layer) → List (ℕ × Layer)
drawn_on c number [] = []
drawn_on c number (d ∷ ds) = (d.0, layer_on c number d.1) ∷ drawn_on c (number + length (lists_of d)) ds

drawn_on-append : (c : Canvas) (number : ℕ) (xs ys : List (ℕ × Layer))
    → drawn_on c number (xs ++ ys) ≡ drawn_on c number xs ++ drawn_on c (number + length (flat_map lists_of xs)) ys
drawn_on-append c number [] ys = let here : number ≡ number + 0 = omega arith in ap (λ k. drawn_on c k ys) here
drawn_on-append c number (x ∷ xs) ys =
    let there : number + length (lists_of x) + length (flat_map lists_of xs) ≡ number + length (lists_of x ++ flat_map lists_of xs) =
    omega (arith, length-append (lists_of x) (flat_map lists_of xs)) in
    ap (λ zs. (x.0, layer_on c number x.1) ∷ zs) (drawn_on-append c (number + length (lists_of x)) xs ys ∙ ap
    (λ k. drawn_on c (number + length (lists_of x)) xs ++ drawn_on c k ys) there)

bare-on : (c : Canvas) (number : ℕ) (l : Layer) → bare (layer_on c number l) ≡ layer_on c number (bare l)
bare-on c number l = λ i. record l { body = sym (body_with_contents-with (cells_on c number) (objects_on c) (λ ls. []) l.body) i }

inside-on : (c : Canvas) (number : ℕ) (l : Layer) → inside (layer_on c number l) ≡ inside l
inside-on c number l = ap or_empty (group_in-contents (cells_on c number) (objects_on c) l.body)

drawn-on_list : (groups : ℕ) (c : Canvas) → ((tier number : ℕ) (l : Layer)
    → tree groups tier (one_on groups c number l) ≡ drawn_on c number (tree groups tier l))
    → (tier number : ℕ) (ls : List Layer) → drawn groups tier (layers_on groups c number ls) ≡ drawn_on c number (drawn groups tier ls)
drawn-on_list groups c each tier number [] = refl
drawn-on_list groups c each tier number (l ∷ ls) =
    let same : counted groups l ≡ length (flat_map lists_of (tree groups tier l)) = ap length (lists-tier groups layer_tier tier l) in
    (λ i. each tier number l i ++ drawn-on_list groups c each tier (number + counted groups l) ls i)
    ∙ ap (λ k. drawn_on c number (tree groups tier l) ++ drawn_on c (number + k) (drawn groups tier ls)) same
    ∙ sym (drawn_on-append c number (tree groups tier l) (drawn groups tier ls))

pub tree-one_on : (groups : ℕ) (c : Canvas) (tier number : ℕ) (l : Layer) → tree groups tier (one_on groups c number l) ≡ drawn_on c number (tree groups tier l)
tree-one_on zero c tier number l =
    ap (tree zero tier) (one_on-is zero c number l) ∙ tree-is zero tier (layer_on c number l) ∙ ap (λ k. (tier, k) ∷ []) (bare-on c number l)
    ∙ sym (ap (drawn_on c number) (tree-is zero tier l))
tree-one_on (suc groups) c tier number l =
    let f = layers_on groups c (number + length (lists_in l.body)) in
    let own : length (lists_in (bare l).body) ≡ length (lists_in l.body) = ap length (lists_in-with (λ ls. []) l.body) in
    ap (tree (suc groups) tier) (one_on-is (suc groups) c number l) ∙ tree-is (suc groups) tier (layer_with_layers f (layer_on c number l))
    ∙ (λ i. (tier, (bare-with f (layer_on c number l) ∙ bare-on c number l) i) ∷ drawn groups (inner_tier tier)
    ((inside-with f refl (layer_on c number l) ∙ ap f (inside-on c number l)) i))
    ∙ ap (λ zs. (tier, layer_on c number (bare l)) ∷ zs) (drawn-on_list groups c (tree-one_on groups c) (inner_tier tier) (number + length (lists_in l.body))
    (inside l))
    ∙ ap (λ k. (tier, layer_on c number (bare l)) ∷ drawn_on c (number + k) (drawn groups (inner_tier tier) (inside l))) (sym own)
    ∙ sym (ap (drawn_on c number) (tree-is (suc groups) tier l))

-- what is drawn on the canvas is what was drawn, on the canvas
pub drawn-layers_on : (groups : ℕ) (c : Canvas) (tier number : ℕ) (ls : List Layer)
    → drawn groups tier (layers_on groups c number ls) ≡ drawn_on c number (drawn groups tier ls)
drawn-layers_on groups c tier number ls = drawn-on_list groups c (tree-one_on groups c) tier number ls

-- ---- how many tile layers
pub length-lists_on : (c : Canvas) (number : ℕ) (ds : List (ℕ × Layer)) → length (flat_map lists_of (drawn_on c number ds)) ≡ length (flat_map lists_of ds)
length-lists_on c number [] = refl
length-lists_on c number (d ∷ ds) =
    let later = length-lists_on c (number + length (lists_of d)) ds in
    let own = lists_in-on c number d.1.body in
    omega (
      arith,
      own,
      later,
      length-append (lists_of (d.0, layer_on c number d.1)) (flat_map lists_of (drawn_on c (number + length (lists_of d)) ds)),
      length-append (lists_of d) (flat_map lists_of ds),
    )

pub counted-on : (groups : ℕ) (c : Canvas) (number : ℕ) (l : Layer) → counted groups (one_on groups c number l) ≡ counted groups l
counted-on groups c number l = ap (λ t. length (flat_map lists_of t)) (tree-one_on groups c layer_tier number l)
    ∙ length-lists_on c number (tree groups layer_tier l)

-- ---- undone
-- what h makes of a body on c, where its cells have that number
abbrev pub Turns : (List (List ℕ) → Canvas) → Canvas → Type 0
Turns h c = (prefix rest : List (List ℕ)) (number : ℕ) (b : Body) → number ≡ length prefix
    → body_on (h (prefix ++ (lists_in b ++ rest))) number (body_on c number b) ≡ b

module _ (h : List (List ℕ) → Canvas) (c : Canvas) (turns : Turns h c) where
  back_list : (groups : ℕ) → ((prefix rest : List (List ℕ)) (number : ℕ) (l : Layer) → number ≡ length prefix → one_on groups
      (h (prefix ++ (lists_under groups l ++ rest))) number (one_on groups c number l) ≡ l)
      → (prefix rest : List (List ℕ)) (number : ℕ) (ls : List Layer) → number ≡ length prefix
      → layers_on groups (h (prefix ++ (flat_map lists_of (drawn groups layer_tier ls) ++ rest))) number (layers_on groups c number ls) ≡ ls
  back_list groups each prefix rest number [] is = refl
  back_list groups each prefix rest number (l ∷ ls) is =
      let cells = flat_map lists_of (drawn groups layer_tier ls) in
      let own = lists_under groups l in
      let lists : flat_map lists_of (drawn groups layer_tier (l ∷ ls)) ++ rest ≡ own ++ (cells ++ rest) = ap (λ xs. xs ++ rest) (lists_under-list groups l ls)
      ∙ append_assoc own cells rest in
      let next : number + counted groups l ≡ length (prefix ++ own) = omega (arith, is, length-append prefix own) in
      let turned : prefix ++ (own ++ (cells ++ rest)) ≡ (prefix ++ own) ++ (cells ++ rest) = sym (append_assoc prefix own (cells ++ rest)) in
      let passed : number + counted groups (one_on groups c number l) ≡ number + counted groups l = ap (λ k. number + k) (counted-on groups c number l) in
      ap (λ xs. layers_on groups (h (prefix ++ xs)) number (layers_on groups c number (l ∷ ls))) lists
      ∙ (λ i. each prefix (cells ++ rest) number l is i ∷ layers_on groups (h (turned i)) (passed i) (layers_on groups c (number + counted groups l) ls))
      ∙ ap (λ ks. l ∷ ks) (back_list groups each (prefix ++ own) rest (number + counted groups l) ls next)

  back_one : (groups : ℕ) (prefix rest : List (List ℕ)) (number : ℕ) (l : Layer) → number ≡ length prefix
      → one_on groups (h (prefix ++ (lists_under groups l ++ rest))) number (one_on groups c number l) ≡ l
  back_one zero prefix rest number l is =
      let lists : lists_under zero l ≡ lists_in l.body = lists_under-is zero l ∙ append-nil (lists_in l.body) in
      ap (λ xs. one_on zero (h (prefix ++ (xs ++ rest))) number (one_on zero c number l)) lists
      ∙ one_on-is zero (h (prefix ++ (lists_in l.body ++ rest))) number (one_on zero c number l)
      ∙ ap (layer_on (h (prefix ++ (lists_in l.body ++ rest))) number) (one_on-is zero c number l)
      ∙ (λ i. record l { body = turns prefix rest number l.body is i })
  back_one (suc groups) prefix rest number l is =
      let b = l.body in
      let cells = flat_map lists_of (drawn groups layer_tier (inside l)) in
      let own = lists_in b in
      let behind = number + length own in
      let f = layers_on groups c behind in
      let on = h (prefix ++ (own ++ (cells ++ rest))) in
      let g = layers_on groups on behind in
      let lists : lists_under (suc groups) l ++ rest ≡ own ++ (cells ++ rest) = ap (λ xs. xs ++ rest) (lists_under-is (suc groups) l)
      ∙ append_assoc own cells rest in
      let next : behind ≡ length (prefix ++ own) = omega (arith, is, length-append prefix own) in
      let seam : prefix ++ (own ++ (cells ++ rest)) ≡ (prefix ++ own) ++ (cells ++ rest) = sym (append_assoc prefix own (cells ++ rest)) in
      let inner : g (f (inside l)) ≡ inside l = ap (λ xs. layers_on groups (h xs) behind (f (inside l))) seam
      ∙ back_list groups (back_one groups) (prefix ++ own) rest behind (inside l) next in
      let passed : number + length (lists_in (body_with_layers f (body_on c number b))) ≡ behind =
      ap (λ xs. number + length xs) (lists_in-with f (body_on c number b)) ∙ ap (λ k. number + k) (lists_in-on c number b) in
      let body : body_with_layers g (body_on on number (body_with_layers f (body_on c number b))) ≡ b =
      ap (body_with_layers g) (body_with_contents-with (cells_on on number) (objects_on on) f (body_on c number b))
      ∙ body_with_layers-twice g f (body_on on number (body_on c number b))
      ∙ ap (body_with_layers (λ ls. g (f ls))) (turns prefix (cells ++ rest) number b is)
      ∙ body_with_layers-along (λ ls. g (f ls)) (λ ls. ls) b (λ ls e. let same : inside l ≡ ls = ap or_empty e in rw (← same) inner)
      ∙ body_with_layers-same b in
      ap (λ xs. one_on (suc groups) (h (prefix ++ xs)) number (one_on (suc groups) c number l)) lists
      ∙ ap (one_on (suc groups) on number) (one_on-is (suc groups) c number l)
      ∙ one_on-is (suc groups) on number (layer_with_layers f (layer_on c number l))
      ∙ ap (λ k. layer_with_layers (layers_on groups on k) (layer_on on number (layer_with_layers f (layer_on c number l)))) passed
      ∙ (λ i. record l { body = body i })

  pub back_layers : (groups : ℕ) (prefix rest : List (List ℕ)) (number : ℕ) (ls : List Layer) → number ≡ length prefix
      → layers_on groups (h (prefix ++ (flat_map lists_of (drawn groups layer_tier ls) ++ rest))) number (layers_on groups c number ls) ≡ ls
  back_layers groups prefix rest number ls is = back_list groups (back_one groups) prefix rest number ls is
