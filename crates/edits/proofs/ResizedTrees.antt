-- Resizing over the tree of layers: its objects that stay, its cells, and its layers on the canvas.
use Rattle.std.proofs.Common.{◌≡◌, ◌≢◌, ℕ, ℤ, zero, suc, ◌+◌, ◌-◌, List, [], ◌∷◌, ◌++◌, length, map, get_or, Bool, true, false, ◌&&◌, Some, None, Result, Ok}
use Rattle.std.proofs.Common.{Err, refl, sym, ap, ◌∙◌, arith, append_assoc, append-nil, length-append}
use Rattle.std.specs.List.{list_all, flat_map}
use Rattle.std.specs.Prelude.{OnOk}
use Rattle.std.proofs.Math.Seq.{get_or-append_seam}
use Rattle.std.proofs.lemmas.List.{length-map, map-append}
use Rattle.std.proofs.lemmas.List.Folds.{list_all-append}
use Rattle.map_model.specs.declared.canvas.Canvas.{Canvas}
use Rattle.map_model.specs.declared.parts.Body.{Body}
use Rattle.map_model.specs.declared.parts.Body.TheVariants.{Tiles}
use Rattle.map_model.specs.declared.parts.Layer.{Layer}
use Rattle.map_model.specs.Bodies.{body_with_objects, body_with_tiles}
use Rattle.map_model.specs.Canvas.{lists_in, lists_of, lists_under, body_on, layer_on, layers_on, one_on}
use Rattle.map_model.specs.Objects.{object_moved, objects_of}
use Rattle.map_model.specs.Groups.{bare, drawn, group_in, group_of, inside, layer_with_layers, tree}
use Rattle.map_model.specs.Keeping.{inner_tier, layer_tier}
use Rattle.map_model.specs.Lists.{Each, or_empty}
use Rattle.map_model.proofs.CanvasTrees.{lists_under-is, lists_under-list, one_on-is}
use Rattle.map_model.proofs.GroupBodies.{body_with_layers-along, objects_in-with}
use Rattle.map_model.proofs.Listings.{Each-prefix, Each-rest}
use Rattle.map_model.proofs.Trees.{tree-is}
use Rattle.edits.specs.Resizing.{all_stay, drawn_stays, each_under}

-- ---- objects that stay
module _ (right down : ℤ) where
  abbrev all : List (ℕ × Layer) → Bool
  all = list_all (drawn_stays right down)

  stay-own : (l : Layer) → all_stay right down (objects_of (bare l)) ≡ all_stay right down (objects_of l)
  stay-own l = ap (all_stay right down) (objects_in-with (λ ls. []) l.body)

  stay-list : (groups : ℕ) → ((a b : ℕ) (l : Layer) → all (tree groups a l) ≡ all (tree groups b l)) → (a b : ℕ) (ls : List Layer)
      → all (drawn groups a ls) ≡ all (drawn groups b ls)
  stay-list groups each a b [] = refl
  stay-list groups each a b (l ∷ ls) =
      list_all-append (drawn_stays right down) (tree groups a l) (drawn groups a ls) ∙ (λ i. each a b l i && stay-list groups each a b ls i)
      ∙ sym (list_all-append (drawn_stays right down) (tree groups b l) (drawn groups b ls))

  stay-tier : (groups a b : ℕ) (l : Layer) → all (tree groups a l) ≡ all (tree groups b l)
  stay-tier zero a b l = ap all (tree-is zero a l) ∙ sym (ap all (tree-is zero b l))
  stay-tier (suc groups) a b l =
      ap all (tree-is (suc groups) a l)
      ∙ ap (λ x. all_stay right down (objects_of (bare l)) && x) (stay-list groups (stay-tier groups) (inner_tier a) (inner_tier b) (inside l))
      ∙ sym (ap all (tree-is (suc groups) b l))

  pub stay-no_groups : (groups : ℕ) (l : Layer) → groups ≡ 0 → all_stay right down (objects_of l) ≡ true → true ≡ all (tree groups layer_tier l)
  stay-no_groups zero l z e = sym (ap all (tree-is zero layer_tier l) ∙ ap (λ x. x && true) (stay-own l ∙ e))
  stay-no_groups (suc groups) l z e = absurd (omega (arith, z))

  pub stay-gone : (groups : ℕ) (l : Layer) → all_stay right down (objects_of l) ≡ false → false ≡ all (tree groups layer_tier l)
  stay-gone zero l e = sym (ap all (tree-is zero layer_tier l) ∙ ap (λ x. x && true) (stay-own l ∙ e))
  stay-gone (suc groups) l e =
      sym (ap all (tree-is (suc groups) layer_tier l) ∙ ap (λ x. x && all (drawn groups (inner_tier layer_tier) (inside l))) (stay-own l ∙ e))

  pub stay-first : (groups : ℕ) (l : Layer) (ls : List Layer) → all (tree groups layer_tier l) ≡ false → false ≡ all (drawn groups layer_tier (l ∷ ls))
  stay-first groups l ls e = sym (list_all-append (drawn_stays right down) (tree groups layer_tier l) (drawn groups layer_tier ls) ∙ ap
      (λ x. x && all (drawn groups layer_tier ls)) e)

  stay-below : (groups : ℕ) (l : Layer) → all_stay right down (objects_of l) ≡ true
      → all (drawn groups layer_tier (inside l)) ≡ all (tree (suc groups) layer_tier l)
  stay-below groups l e =
      stay-list groups (stay-tier groups) layer_tier (inner_tier layer_tier) (inside l)
      ∙ sym (ap all (tree-is (suc groups) layer_tier l) ∙ ap (λ x. x && all (drawn groups (inner_tier layer_tier) (inside l))) (stay-own l ∙ e))

  pub stay-group : (groups : ℕ) (l : Layer) (ks : List Layer) → groups ≢ 0 → group_of l ≡ Some ks → all_stay right down (objects_of l) ≡ true
      → all (drawn (groups - 1) layer_tier ks) ≡ all (tree groups layer_tier l)
  stay-group zero l ks z g e = absurd (z refl)
  stay-group (suc groups) l ks z g e =
      let same : suc groups - 1 ≡ groups = omega arith in
      ap (λ n. all (drawn n layer_tier ks)) same ∙ ap (λ o. all (drawn groups layer_tier (or_empty o))) (sym g) ∙ stay-below groups l e

  pub stay-no_group : (groups : ℕ) (l : Layer) → group_of l ≡ None → all_stay right down (objects_of l) ≡ true → true ≡ all (tree groups layer_tier l)
  stay-no_group zero l g e = stay-no_groups zero l refl e
  stay-no_group (suc groups) l g e = ap (λ o. all (drawn groups layer_tier (or_empty o))) (sym g) ∙ stay-below groups l e

-- ---- cells
pub under-no_groups : (groups : ℕ) (l : Layer) → groups ≡ 0 → lists_under groups l ≡ lists_in l.body
under-no_groups zero l z = lists_under-is zero l ∙ append-nil (lists_in l.body)
under-no_groups (suc groups) l z = absurd (omega (arith, z))

pub under-no_group : (groups : ℕ) (l : Layer) → group_of l ≡ None → lists_under groups l ≡ lists_in l.body
under-no_group zero l g = under-no_groups zero l refl
under-no_group (suc groups) l g =
    lists_under-is (suc groups) l ∙ ap (λ o. lists_in l.body ++ flat_map lists_of (drawn groups layer_tier (or_empty o))) g ∙ append-nil (lists_in l.body)

pub under-group : (groups : ℕ) (l : Layer) (ks : List Layer) → groups ≢ 0 → group_of l ≡ Some ks
    → lists_under groups l ≡ lists_in l.body ++ flat_map lists_of (drawn (groups - 1) layer_tier ks)
under-group zero l ks z g = absurd (z refl)
under-group (suc groups) l ks z g =
    let same : groups ≡ suc groups - 1 = omega arith in
    lists_under-is (suc groups) l ∙ ap (λ o. lists_in l.body ++ flat_map lists_of (drawn groups layer_tier (or_empty o))) g
    ∙ ap (λ n. lists_in l.body ++ flat_map lists_of (drawn n layer_tier ks)) same

module _ (P : List ℕ → Type 0) where
  pub own-each : (groups : ℕ) (l : Layer) → Each P (lists_under groups l) → Each P (lists_in l.body)
  own-each zero l h = Each-prefix P (lists_in l.body) [] (rw (lists_under-is zero l) at h)
  own-each (suc groups) l h = Each-prefix P (lists_in l.body) (flat_map lists_of (drawn groups layer_tier (inside l))) (rw (lists_under-is (suc groups) l) at h)

  pub group-each : (groups : ℕ) (l : Layer) (ks : List Layer) → groups ≢ 0 → group_of l ≡ Some ks → Each P (lists_under groups l)
      → Each P (flat_map lists_of (drawn (groups - 1) layer_tier ks))
  group-each groups l ks z g h = Each-rest P (lists_in l.body) (flat_map lists_of (drawn (groups - 1) layer_tier ks)) (rw (under-group groups l ks z g) at h)

  pub list-each : (groups : ℕ) (l : Layer) (ls : List Layer) → Each P (flat_map lists_of (drawn groups layer_tier (l ∷ ls)))
      → Each P (lists_under groups l) × Each P (flat_map lists_of (drawn groups layer_tier ls))
  list-each groups l ls h =
      let both = rw (lists_under-list groups l ls) at h in (
        Each-prefix P (lists_under groups l) (flat_map lists_of (drawn groups layer_tier ls)) both,
        Each-rest P (lists_under groups l) (flat_map lists_of (drawn groups layer_tier ls)) both,
      )

-- ---- cells that are pushed
pub on_then : {A E P Q : Type 0} (r : Result A E) → OnOk r P → (P → Q) → OnOk r Q
on_then (Ok x) h f = f h
on_then (Err x) h f = tt

module _ {X Y : Type 0} (f : X → Y) where
  pub pushed-two : (old mid new : List Y) (a b all : List X) → mid ≡ old ++ map f a → new ≡ mid ++ map f b → all ≡ a ++ b → new ≡ old ++ map f all
  pushed-two old mid new a b all first second is =
      second ∙ ap (λ xs. xs ++ map f b) first ∙ append_assoc old (map f a) (map f b) ∙ ap (λ xs. old ++ xs) (sym (map-append f a b) ∙ ap (map f) (sym is))

  pub pushed-first : (old new end : List Y) (a b all : List X) → new ≡ old ++ map f a → old ++ map f all ≡ end → all ≡ a ++ b → new ++ map f b ≡ end
  pushed-first old new end a b all first was is = pushed-two old new (new ++ map f b) a b all first refl is ∙ was

-- ---- layers on the canvas
body-with : (c : Canvas) (f : List ℕ → List ℕ) (number : ℕ) (b : Body) → ((e : List ℕ) → lists_in b ≡ e ∷ [] → get_or c.layers number e ≡ f e)
    → body_on c number b ≡ body_with_objects (map (object_moved c.right c.down)) (body_with_tiles f b)
body-with c f number (Tiles e own) h = ap (Tiles e) (h own refl)
body-with c f number b h = refl

-- a layer with f of its values, or with its objects moved
abbrev pub layer-with : (List ℕ → List ℕ) → ℤ → ℤ → Layer → Layer
layer-with f right down l = record l { body = body_with_objects (map (object_moved right down)) (body_with_tiles f l.body) }

group_in-with : (f : List ℕ → List ℕ) (right down : ℤ) (b : Body)
    → group_in (body_with_objects (map (object_moved right down)) (body_with_tiles f b)) ≡ group_in b
group_in-with f right down (Tiles e own) = refl
group_in-with f right down b = refl

abbrev each_below : ℕ → (Layer → Layer) → Layer → Layer
each_below zero f l = f l
each_below (suc groups) f l = layer_with_layers (map (each_under groups f)) (f l)

each_under-is : (groups : ℕ) (f : Layer → Layer) (l : Layer) → each_under groups f l ≡ each_below groups f l
unfolding each_under
each_under-is zero f l = refl
each_under-is (suc groups) f l = refl

module _ (c : Canvas) (f : List ℕ → List ℕ) where
  abbrev changed : Layer → Layer
  changed = layer-with f c.right c.down

  own-with : (prefix rest : List (List ℕ)) (number : ℕ) (l : Layer) → c.layers ≡ prefix ++ (map f (lists_in l.body) ++ rest) → number ≡ length prefix
      → layer_on c number l ≡ changed l
  own-with prefix rest number l held is =
      let own = λ (cells : List ℕ) (only : lists_in l.body ≡ cells ∷ []).
      let at : c.layers ≡ prefix ++ (f cells ∷ rest) = held ∙ ap (λ xs. prefix ++ (map f xs ++ rest)) only in
      ap (λ xs. get_or xs number cells) at ∙ ap (λ k. get_or (prefix ++ (f cells ∷ rest)) k cells) is ∙ get_or-append_seam prefix (f cells) rest cells in
      ap (λ b. record l { body = b }) (body-with c f number l.body own)

  -- lists of cells that stand behind others, as two lists
  cut : (prefix A B rest : List (List ℕ)) → c.layers ≡ prefix ++ (map f (A ++ B) ++ rest) → c.layers ≡ prefix ++ (map f A ++ (map f B ++ rest))
  cut prefix A B rest held = held ∙ ap (λ xs. prefix ++ xs) (ap (λ xs. xs ++ rest) (map-append f A B) ∙ append_assoc (map f A) (map f B) rest)

  next : (prefix A : List (List ℕ)) (number : ℕ) → number ≡ length prefix → number + length A ≡ length (prefix ++ map f A)
  next prefix A number is = omega (arith, length-append prefix (map f A), length-map A f, is)

  list-with : (groups : ℕ) → ((prefix rest : List (List ℕ)) (number : ℕ) (l : Layer) → c.layers ≡ prefix ++ (map f (lists_under groups l) ++ rest)
      → number ≡ length
      prefix → one_on groups c number l ≡ each_under groups changed l)
      → (prefix rest : List (List ℕ)) (number : ℕ) (ls : List Layer) → c.layers ≡ prefix ++ (map f (flat_map lists_of (drawn groups layer_tier ls)) ++ rest)
      → number ≡ length prefix
      → layers_on groups c number ls ≡ map (each_under groups changed) ls
  list-with groups each prefix rest number [] held is = refl
  list-with groups each prefix rest number (l ∷ ls) held is =
      let A = lists_under groups l in
      let B = flat_map lists_of (drawn groups layer_tier ls) in
      let two = cut prefix A B rest (held ∙ ap (λ xs. prefix ++ (map f xs ++ rest)) (lists_under-list groups l ls)) in
      let first = each prefix (map f B ++ rest) number l two is in
      let later = list-with groups each (prefix ++ map f A) rest (number + length A) ls (two ∙ sym (append_assoc prefix (map f A) (map f B ++ rest)))
      (next prefix A number is) in
      λ i. first i ∷ later i

  under-with : (groups : ℕ) (prefix rest : List (List ℕ)) (number : ℕ) (l : Layer) → c.layers ≡ prefix ++ (map f (lists_under groups l) ++ rest)
      → number ≡ length prefix
      → one_on groups c number l ≡ each_under groups changed l
  under-with zero prefix rest number l held is =
      let own = held ∙ ap (λ xs. prefix ++ (map f xs ++ rest)) (under-no_groups zero l refl) in
      one_on-is zero c number l ∙ own-with prefix rest number l own is ∙ sym (each_under-is zero changed l)
  under-with (suc groups) prefix rest number l held is =
      let A = lists_in l.body in
      let B = flat_map lists_of (drawn groups layer_tier (inside l)) in
      let two = cut prefix A B rest (held ∙ ap (λ xs. prefix ++ (map f xs ++ rest)) (lists_under-is (suc groups) l)) in
      let own = own-with prefix (map f B ++ rest) number l two is in
      let later : c.layers ≡ (prefix ++ map f A) ++ (map f B ++ rest) = two ∙ sym (append_assoc prefix (map f A) (map f B ++ rest)) in
      let inner = λ (ks : List Layer) (e : group_in (changed l).body ≡ Some ks).
      let have : inside l ≡ ks = ap or_empty (sym (group_in-with f c.right c.down l.body) ∙ e) in
      list-with groups (under-with groups) (prefix ++ map f A) rest (number + length A) ks
      (later ∙ ap (λ js. (prefix ++ map f A) ++ (map f (flat_map lists_of (drawn groups layer_tier js)) ++ rest)) have) (next prefix A number is) in
      one_on-is (suc groups) c number l
      ∙ ap (λ k. layer_with_layers (layers_on groups c (number + length A)) k) own
      ∙ ap (λ b. record l { body = b }) (body_with_layers-along (layers_on groups c (number + length A)) (map (each_under groups changed))
      (changed l).body inner)
      ∙ sym (each_under-is (suc groups) changed l)

  pub layers-with : (groups : ℕ) (ls : List Layer) → c.layers ≡ map f (flat_map lists_of (drawn groups layer_tier ls))
      → layers_on groups c 0 ls ≡ map (each_under groups changed) ls
  layers-with groups ls held =
      list-with groups (under-with groups) [] [] 0 ls (held ∙ sym (append-nil (map f (flat_map lists_of (drawn groups layer_tier ls))))) refl
