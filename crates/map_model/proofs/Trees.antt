-- Trees of layers: how the layer with an id stands in the list in drawing order.
use Rattle.std.proofs.Common.{◌≡◌, ℕ, zero, suc, ◌+◌, ◌*◌, List, [], ◌∷◌, ◌++◌, append-nil, append_assoc, length, length-append, Bool, true, false, cond}
use Rattle.std.proofs.Common.{Option, Some, None, find, refl, sym, ap, ◌∙◌, arith}
use Rattle.map_model.specs.declared.parts.Layer.{Layer}
use Rattle.map_model.specs.Groups.{tree, drawn, bare, inside, has_id, find_one, layer_among, holds, change_one, change_among, layer_with_layers}
use Rattle.map_model.specs.Keeping.{inner_tier}
use Rattle.map_model.specs.Lists.{or_else}
use Rattle.map_model.specs.Properties.{is_drawn_with}
use Rattle.map_model.proofs.GroupBodies.{bare-with, inside-with}

-- ---- one step of each definition
-- what is drawn behind a layer, of those that stand in it
abbrev pub below : ℕ → ℕ → Layer → List (ℕ × Layer)
below zero tier l = []
below (suc groups) tier l = drawn groups (inner_tier tier) (inside l)

pub tree-is : (groups tier : ℕ) (l : Layer) → tree groups tier l ≡ (tier, bare l) ∷ below groups tier l
unfolding tree
tree-is zero tier l = refl
tree-is (suc groups) tier l = refl

abbrev pub found_below : ℕ → ℕ → Layer → Option Layer
found_below id zero l = None
found_below id (suc groups) l = layer_among id groups (inside l)

pub find_one-is : (id groups : ℕ) (l : Layer) → find_one id groups l ≡ cond (has_id id l) (Some l) (found_below id groups l)
unfolding find_one
find_one-is id zero l = refl
find_one-is id (suc groups) l = refl

abbrev pub changed_below : ℕ → ℕ → (Layer → Layer) → Layer → Layer
changed_below id zero f l = l
changed_below id (suc groups) f l = layer_with_layers (change_among id groups f) l

pub change_one-is : (id groups : ℕ) (f : Layer → Layer) (l : Layer) → change_one id groups f l ≡ cond (has_id id l) (f l) (changed_below id groups f l)
unfolding change_one
change_one-is id zero f l = refl
change_one-is id (suc groups) f l = refl

-- ---- how many layers a tree has, which its tier does not change
length-list : (groups : ℕ) → ((a b : ℕ) (l : Layer) → length (tree groups a l) ≡ length (tree groups b l)) → (a b : ℕ) (ls : List Layer)
    → length (drawn groups a ls) ≡ length (drawn groups b ls)
length-list groups each a b [] = refl
length-list groups each a b (l ∷ ls) =
    let own = each a b l in
    let later = length-list groups each a b ls in
    omega (arith, own, later, length-append (tree groups a l) (drawn groups a ls), length-append (tree groups b l) (drawn groups b ls))

pub length-tree : (groups a b : ℕ) (l : Layer) → length (tree groups a l) ≡ length (tree groups b l)
length-tree zero a b l = ap length (tree-is zero a l) ∙ sym (ap length (tree-is zero b l))
length-tree (suc groups) a b l =
    ap length (tree-is (suc groups) a l) ∙ ap suc (length-list groups (length-tree groups) (inner_tier a) (inner_tier b) (inside l))
    ∙ sym (ap length (tree-is (suc groups) b l))

pub length-drawn : (groups a b : ℕ) (ls : List Layer) → length (drawn groups a ls) ≡ length (drawn groups b ls)
length-drawn groups a b ls = length-list groups (length-tree groups) a b ls

-- ---- where the layer with an id stands
-- l stands in the list xs of layers in drawing order, so many groups below; with f of l in its place the list is ys f
pub record Stands (id groups tier : ℕ) (l : Layer) (xs : List (ℕ × Layer)) (ys : (Layer → Layer) → List (ℕ × Layer)) : Type 0 where
  pub own_groups : ℕ
  pub own_tier : ℕ
  pub prefix : List (ℕ × Layer)
  pub rest : List (ℕ × Layer)
  pub was : xs ≡ prefix ++ (tree own_groups own_tier l ++ rest)
  pub now : (f : Layer → Layer) → ys f ≡ prefix ++ (tree own_groups own_tier (f l) ++ rest)
  pub first : find (is_drawn_with id) xs ≡ Some (own_tier, bare l)
  pub deep : own_tier + 2 * own_groups ≡ tier + 2 * groups
  pub has : has_id id l ≡ true

find-append : {X : Type 0} (p : X → Bool) (xs ys : List X) → find p (xs ++ ys) ≡ or_else (find p xs) (find p ys)
find-append p [] ys = refl
find-append p (x ∷ xs) ys =
    elim (p x) as (λ b. cond b (Some x) (find p (xs ++ ys)) ≡ or_else (cond b (Some x) (find p xs)) (find p ys))
    [ true ↦ refl | false ↦ find-append p xs ys ]

longer : {X : Type 0} (prefix piece rest more : List X) → (prefix ++ (piece ++ rest)) ++ more ≡ prefix ++ (piece ++ (rest ++ more))
longer prefix piece rest more = append_assoc prefix (piece ++ rest) more ∙ ap (λ zs. prefix ++ zs) (append_assoc piece rest more)

module _ {id groups tier : ℕ} {l : Layer} {xs : List (ℕ × Layer)} {ys : (Layer → Layer) → List (ℕ × Layer)} (more : List (ℕ × Layer))
    (s : Stands id groups tier l xs ys) where
  Stands-before : Stands id groups tier l (xs ++ more) (λ f. ys f ++ more)
  Stands-before = record {
    own_groups = s.own_groups;
    own_tier = s.own_tier;
    prefix = s.prefix;
    rest = s.rest ++ more;
    was = ap (λ zs. zs ++ more) s.was ∙ longer s.prefix (tree s.own_groups s.own_tier l) s.rest more;
    now = λ f. ap (λ zs. zs ++ more) (s.now f) ∙ longer s.prefix (tree s.own_groups s.own_tier (f l)) s.rest more;
    first = find-append (is_drawn_with id) xs more ∙ ap (λ o. or_else o (find (is_drawn_with id) more)) s.first;
    deep = s.deep;
    has = s.has;
  }

  Stands-behind : find (is_drawn_with id) more ≡ None → Stands id groups tier l (more ++ xs) (λ f. more ++ ys f)
  Stands-behind none = record {
    own_groups = s.own_groups;
    own_tier = s.own_tier;
    prefix = more ++ s.prefix;
    rest = s.rest;
    was = ap (λ zs. more ++ zs) s.was ∙ sym (append_assoc more s.prefix (tree s.own_groups s.own_tier l ++ s.rest));
    now = λ f. ap (λ zs. more ++ zs) (s.now f) ∙ sym (append_assoc more s.prefix (tree s.own_groups s.own_tier (f l) ++ s.rest));
    first = find-append (is_drawn_with id) more xs ∙ ap (λ o. or_else o (find (is_drawn_with id) xs)) none ∙ s.first;
    deep = s.deep;
    has = s.has;
  }

-- ---- where no layer has the id, none of those drawn has it
none_list : (id groups : ℕ) → ((tier : ℕ) (l : Layer) → find_one id groups l ≡ None → find (is_drawn_with id) (tree groups tier l) ≡ None)
    → (tier : ℕ) (ls : List Layer) → layer_among id groups ls ≡ None → find (is_drawn_with id) (drawn groups tier ls) ≡ None
none_list id groups one tier [] e = refl
none_list id groups one tier (l ∷ ls) e = by_one (find_one id groups l) refl e (none_list id groups one tier ls)
  where
    by_one : (o : Option Layer) → find_one id groups l ≡ o → or_else o (layer_among id groups ls) ≡ None
        → (layer_among id groups ls ≡ None → find (is_drawn_with id) (drawn groups tier ls) ≡ None)
        → find (is_drawn_with id) (tree groups tier l ++ drawn groups tier ls) ≡ None
    by_one None q k later = find-append (is_drawn_with id) (tree groups tier l) (drawn groups tier ls)
        ∙ ap (λ o. or_else o (find (is_drawn_with id) (drawn groups tier ls))) (one tier l q) ∙ later k
    by_one (Some found) q k later = cc

none_own : (id groups tier : ℕ) (l : Layer) → (found_below id groups l ≡ None → find (is_drawn_with id) (below groups tier l) ≡ None)
    → find_one id groups l ≡ None
    → find (is_drawn_with id) (tree groups tier l) ≡ None
none_own id groups tier l deeper e = rw (tree-is groups tier l) (by_own (has_id id l) refl (sym (find_one-is id groups l) ∙ e))
  where
    by_own : (b : Bool) → has_id id l ≡ b → cond b (Some l) (found_below id groups l) ≡ None
        → cond (has_id id l) (Some (tier, bare l)) (find (is_drawn_with id) (below groups tier l)) ≡ None
    by_own true q k = cc
    by_own false q k = rw q (deeper k)

pub none_one : (id groups tier : ℕ) (l : Layer) → find_one id groups l ≡ None → find (is_drawn_with id) (tree groups tier l) ≡ None
none_one id zero tier l e = none_own id zero tier l (λ k. refl) e
none_one id (suc groups) tier l e = none_own id (suc groups) tier l (none_list id groups (none_one id groups) (inner_tier tier) (inside l)) e

pub none_among : (id groups tier : ℕ) (ls : List Layer) → layer_among id groups ls ≡ None → find (is_drawn_with id) (drawn groups tier ls) ≡ None
none_among id groups tier ls e = none_list id groups (none_one id groups) tier ls e

-- ---- and where one has it, it stands there
stands_list : (id groups : ℕ) (l : Layer) → ((tier : ℕ) (x : Layer) → find_one id groups x ≡ Some l → Stands id groups tier l (tree groups tier x)
    (λ f. tree groups tier (change_one id groups f x)))
    → (tier : ℕ) (ls : List Layer) → layer_among id groups ls ≡ Some l
    → Stands id groups tier l (drawn groups tier ls) (λ f. drawn groups tier (change_among id groups f ls))
stands_list id groups l one tier [] e = cc
stands_list id groups l one tier (x ∷ xs) e = by_one (find_one id groups x) refl e (stands_list id groups l one tier xs)
  where
    by_one : (o : Option Layer) → find_one id groups x ≡ o → or_else o (layer_among id groups xs) ≡ Some l
        → (layer_among id groups xs ≡ Some l → Stands id groups tier l (drawn groups tier xs) (λ f. drawn groups tier (change_among id groups f xs)))
        → Stands id groups tier l (tree groups tier x ++ drawn groups tier xs)
        (λ f. drawn groups tier (cond (holds id groups x) (change_one id groups f x ∷ xs) (x ∷ change_among id groups f xs)))
    by_one None q k later = rw q (Stands-behind (tree groups tier x) (later k) (none_one id groups tier x q))
    by_one (Some found) q k later = let is : Some found ≡ Some l = k in rw q (Stands-before (drawn groups tier xs) (one tier x (q ∙ is)))

-- a layer that has the id itself
stands_at : (id groups tier : ℕ) (l y : Layer) → y ≡ l → has_id id y ≡ true
    → Stands id groups tier l (tree groups tier y) (λ f. tree groups tier (change_one id groups f y))
stands_at id groups tier l y is has = record {
  own_groups = groups;
  own_tier = tier;
  prefix = [];
  rest = [];
  was = ap (tree groups tier) is ∙ sym (append-nil (tree groups tier l));
  now = λ f. ap (tree groups tier) (change_one-is id groups f y ∙ rw has (ap f is)) ∙ sym (append-nil (tree groups tier (f l)));
  first = rw (tree-is groups tier y, has) (ap (λ z. Some (tier, bare z)) is);
  deep = refl;
  has = rw (← is) has;
}

-- a layer in which one with the id stands
stands_below : (id groups tier : ℕ) (l x : Layer) → has_id id x ≡ false
    → Stands id groups (inner_tier tier) l (drawn groups (inner_tier tier) (inside x)) (λ f. drawn groups (inner_tier tier) (change_among id groups f
    (inside x)))
    → Stands id (suc groups) tier l (tree (suc groups) tier x) (λ f. tree (suc groups) tier (change_one id (suc groups) f x))
stands_below id groups tier l x other s = record {
  own_groups = s.own_groups;
  own_tier = s.own_tier;
  prefix = (tier, bare x) ∷ s.prefix;
  rest = s.rest;
  was = tree-is (suc groups) tier x ∙ ap (λ zs. (tier, bare x) ∷ zs) s.was;
  now = λ f.
      ap (tree (suc groups) tier) (change_one-is id (suc groups) f x ∙ rw other refl)
      ∙ tree-is (suc groups) tier (layer_with_layers (change_among id groups f) x)
      ∙ (λ i. (tier, bare-with (change_among id groups f) x i) ∷ drawn groups (inner_tier tier) (inside-with (change_among id groups f) refl x i))
      ∙ ap (λ zs. (tier, bare x) ∷ zs) (s.now f);
  first = rw (tree-is (suc groups) tier x, other) s.first;
  deep = let below = s.deep in omega (arith, below);
  has = s.has;
}

pub stands_one : (id groups tier : ℕ) (l x : Layer) → find_one id groups x ≡ Some l
    → Stands id groups tier l (tree groups tier x) (λ f. tree groups tier (change_one id groups f x))
stands_one id zero tier l x e = by_own (has_id id x) refl (sym (find_one-is id zero x) ∙ e)
  where
    by_own : (b : Bool) → has_id id x ≡ b → cond b (Some x) None ≡ Some l
        → Stands id zero tier l (tree zero tier x) (λ f. tree zero tier (change_one id zero f x))
    by_own true q k = let is : x ≡ l = cc in stands_at id zero tier l x is q
    by_own false q k = cc
stands_one id (suc groups) tier l x e =
    by_own (has_id id x) refl (sym (find_one-is id (suc groups) x) ∙ e)
    (stands_list id groups l (λ deep y q. stands_one id groups deep l y q) (inner_tier tier) (inside x))
  where
    by_own : (b : Bool) → has_id id x ≡ b → cond b (Some x) (layer_among id groups (inside x)) ≡ Some l
        → (layer_among id groups (inside x) ≡ Some l → Stands id groups (inner_tier tier) l (drawn groups (inner_tier tier) (inside x))
        (λ f. drawn groups (inner_tier tier) (change_among id groups f (inside x))))
        → Stands id (suc groups) tier l (tree (suc groups) tier x) (λ f. tree (suc groups) tier (change_one id (suc groups) f x))
    by_own true q k later = let is : x ≡ l = cc in stands_at id (suc groups) tier l x is q
    by_own false q k later = stands_below id groups tier l x q (later k)

pub stands : (id groups tier : ℕ) (ls : List Layer) (l : Layer) → layer_among id groups ls ≡ Some l
    → Stands id groups tier l (drawn groups tier ls) (λ f. drawn groups tier (change_among id groups f ls))
stands id groups tier ls l e = stands_list id groups l (λ deep x q. stands_one id groups deep l x q) tier ls e

-- where no layer has the id, no change changes one
pub change_among-none : (id groups : ℕ) (f : Layer → Layer) (ls : List Layer) → layer_among id groups ls ≡ None → change_among id groups f ls ≡ ls
change_among-none id groups f [] e = refl
change_among-none id groups f (l ∷ ls) e = by_one (find_one id groups l) refl e (change_among-none id groups f ls)
  where
    by_one : (o : Option Layer) → find_one id groups l ≡ o → or_else o (layer_among id groups ls) ≡ None
        → (layer_among id groups ls ≡ None → change_among id groups f ls ≡ ls)
        → cond (holds id groups l) (change_one id groups f l ∷ ls) (l ∷ change_among id groups f ls) ≡ l ∷ ls
    by_one None q k later = rw q (ap (λ ks. l ∷ ks) (later k))
    by_one (Some found) q k later = cc
