-- The layers of a parent: at which tier they stand, and how many stand there once another layer is taken out.
use Rattle.std.proofs.Common.{◌≡◌, ◌≢◌, ℕ, zero, suc, ◌+◌, ◌-◌, ◌*◌, ◌≤◌, List, [], ◌∷◌, ◌++◌, append-nil, append_assoc, length, nat_eq, Bool, true, false}
use Rattle.std.proofs.Common.{cond, Option, Some, None, is_some, option_map, option_and_then, refl, sym, ap, ◌∙◌, subst, arith}
use Rattle.std.specs.List.{remove, slice_get}
use Rattle.std.proofs.lemmas.Bool.{eqb-true}
use Rattle.std.proofs.lemmas.Bool.Decides.{nat_tests}
use Rattle.std.proofs.lemmas.List.Edits.{length-remove}
use Rattle.map_model.specs.declared.limits.TheConstants.{MAX_GROUPS}
use Rattle.map_model.specs.declared.parts.Body.{Body}
use Rattle.map_model.specs.declared.parts.Body.TheVariants.{Group'}
use Rattle.map_model.specs.declared.parts.Layer.{Layer}
use Rattle.map_model.specs.declared.parts.MapParts.{MapParts}
use Rattle.map_model.specs.declared.place.LayerPlace.{LayerPlace}
use Rattle.map_model.specs.Document.{document_of}
use Rattle.map_model.specs.Groups.{all_drawn, bare, change_among, change_one, drawn, find_one, group_in, group_of, has_id, holds, inside, layer_among}
use Rattle.map_model.specs.Groups.{body_with_layers, layer_with_layers, tree}
use Rattle.map_model.specs.Keeping.{deepest_tier, inner_tier, layer_tier}
use Rattle.map_model.specs.Layers.{siblings_of, with_siblings, without_layer_at}
use Rattle.map_model.specs.Lists.{Each, or_else, or_empty}
use Rattle.map_model.specs.Lookups.{layer_of}
use Rattle.map_model.specs.Moving.{is_parent_in, is_same_parent, other_layers, tier_in}
use Rattle.map_model.specs.Properties.{is_drawn_with, tier_of}
use Rattle.map_model.specs.WellFormed.{IsBody, IsWellFormed}
use Rattle.map_model.proofs.Changes.{length-change_first, slice_get-within}
use Rattle.map_model.proofs.GroupBodies.{bare-with, body_with_layers-Group, group_cases, group_in-Group, group_of-with, inside-with}
use Rattle.map_model.proofs.Keeps.{Each-found, layer-Stands, layer_of-IsLayer, tier_of-found}
use Rattle.map_model.proofs.LensLaws.{siblings-laws}
use Rattle.map_model.proofs.Listings.{Each-append}
use Rattle.map_model.proofs.Trees.{changed_below, change_one-is, found_below, find_one-is, tree-is}

-- ---- tiers
-- no layer stands above the tier at which it is drawn
abbrev AreLow : ℕ → List (ℕ × Layer) → Type 0
AreLow tier ds = Each (λ d. tier ≤ d.0) ds

AreLow-above : (a b : ℕ) → a ≤ b → (ds : List (ℕ × Layer)) → AreLow b ds → AreLow a ds
AreLow-above a b le [] h = tt
AreLow-above a b le (d ∷ ds) h = (omega (arith, le, h.0), AreLow-above a b le ds h.1)

low_list : (groups : ℕ) → ((tier : ℕ) (l : Layer) → AreLow tier (tree groups tier l)) → (tier : ℕ) (ls : List Layer) → AreLow tier (drawn groups tier ls)
low_list groups one tier [] = tt
low_list groups one tier (l ∷ ls) =
    Each-append (λ d. tier ≤ d.0) (tree groups tier l) (drawn groups tier ls) (one tier l) (low_list groups one tier ls)

low_one : (groups tier : ℕ) (l : Layer) → AreLow tier (tree groups tier l)
low_one zero tier l = let own : AreLow tier ((tier, bare l) ∷ []) = (omega arith, tt) in rw (tree-is zero tier l) own
low_one (suc groups) tier l =
    let later = AreLow-above tier (inner_tier tier) (omega arith) (drawn groups (inner_tier tier) (inside l))
    (low_list groups (low_one groups) (inner_tier tier) (inside l)) in
    let all : AreLow tier ((tier, bare l) ∷ drawn groups (inner_tier tier) (inside l)) = (omega arith, later) in
    rw (tree-is (suc groups) tier l) all

tier_of-least : (m : MapParts) (id : ℕ) (l : Layer) → layer_of m id ≡ Some l → layer_tier ≤ tier_of m id
tier_of-least m id l e =
    let s = layer-Stands m id l e in
    let low = Each-found (is_drawn_with id) (λ d. layer_tier ≤ d.0) (all_drawn m.layers) (s.own_tier, bare l) s.first
    (low_list MAX_GROUPS (low_one MAX_GROUPS) layer_tier m.layers) in
    rw (tier_of-found m id l e) low

-- ---- where the layers of a parent stand
-- the layers ls of a parent stand within all layers in drawing order, with room for as many groups as may stand in one another there
pub record StandWithin (m : MapParts) (parent : Option ℕ) (ls : List Layer) : Type 0 where
  pub groups : ℕ
  pub prefix : List (ℕ × Layer)
  pub rest : List (ℕ × Layer)
  pub deep : tier_in m parent + 2 * groups ≡ deepest_tier
  pub few : groups ≤ MAX_GROUPS
  pub was : all_drawn m.layers ≡ prefix ++ (drawn groups (tier_in m parent) ls ++ rest)
  pub now : (f : List Layer → List Layer) → all_drawn (with_siblings parent f m).layers ≡ prefix ++ (drawn groups (tier_in m parent) (f ls) ++ rest)

-- a group has room for layers in it
group_room : (groups tier size : ℕ) (b : Body) (ls : List Layer) → group_in b ≡ Some ls → IsBody tier size b → tier + 2 * groups ≡ deepest_tier
    → (r : ℕ) × (groups ≡ suc r)
group_room zero tier size (Group' s r) ls g h deep = absurd (omega (arith, h, deep))
group_room zero tier size b ls g h deep = cc
group_room (suc groups) tier size b ls g h deep = (groups, refl)

pub stand_within : (m : MapParts) (parent : Option ℕ) (ls : List Layer) → siblings_of m parent ≡ Some ls → IsWellFormed m → StandWithin m parent ls
stand_within m None ls e h =
    let is : m.layers ≡ ls = cc in
    record {
      groups = MAX_GROUPS;
      prefix = [];
      rest = [];
      deep = refl;
      few = omega arith;
      was = ap all_drawn is ∙ sym (append-nil (drawn MAX_GROUPS layer_tier ls));
      now = λ f. ap (λ ks. all_drawn (f ks)) is ∙ sym (append-nil (drawn MAX_GROUPS layer_tier (f ls)));
    }
stand_within m (Some id) ls e h = by_layer (layer_of m id) refl e
  where
    by_room : (l : Layer) → layer_of m id ≡ Some l → group_of l ≡ Some ls → (groups own_tier : ℕ) (prefix rest : List (ℕ × Layer)) → tier_of m id ≡ own_tier
        → tier_of m id + 2 * groups ≡ deepest_tier → all_drawn m.layers ≡ prefix ++ (tree groups own_tier l ++ rest)
        → ((f : Layer → Layer) → all_drawn (change_among id MAX_GROUPS f m.layers) ≡ prefix ++ (tree groups own_tier (f l) ++ rest))
        → (r : ℕ) × (groups ≡ suc r) → StandWithin m (Some id) ls
    by_room l found g groups own_tier prefix rest own deep was now room = record {
      groups = room.0;
      prefix = prefix ++ ((tier_of m id, bare l) ∷ []);
      rest = rest;
      deep = omega (arith, deep, room.1);
      few = let low = tier_of-least m id l found in omega (arith, low, deep, room.1);
      was = was ∙ pieces l (ap or_empty g) refl;
      now = λ f. now (layer_with_layers f) ∙ pieces (layer_with_layers f l) (ap or_empty (group_of-with f l ls g)) (bare-with f l);
    }
      where
        pieces : (k : Layer) {ks : List Layer} → inside k ≡ ks → bare k ≡ bare l
            → prefix ++ (tree groups own_tier k ++ rest)
            ≡ (prefix ++ ((tier_of m id, bare l) ∷ [])) ++ (drawn room.0 (inner_tier (tier_of m id)) ks ++ rest)
        pieces k are same =
            ap (λ n. prefix ++ (tree n own_tier k ++ rest)) room.1 ∙ ap (λ t. prefix ++ (tree (suc room.0) t k ++ rest)) (sym own)
            ∙ ap (λ ds. prefix ++ (ds ++ rest)) (tree-is (suc room.0) (tier_of m id) k)
            ∙ (λ i. prefix ++ (((tier_of m id, same i) ∷ drawn room.0 (inner_tier (tier_of m id)) (are i)) ++ rest))
            ∙ sym (append_assoc prefix ((tier_of m id, bare l) ∷ []) _)

    by_layer : (o : Option Layer) → layer_of m id ≡ o → option_and_then group_of o ≡ Some ls → StandWithin m (Some id) ls
    by_layer None found g = cc
    by_layer (Some l) found g =
        let s = layer-Stands m id l found in
        let own = tier_of-found m id l found in
        let around = s.deep in
        let deep : tier_of m id + 2 * s.own_groups ≡ deepest_tier = omega (arith, own, around) in
        by_room l found g s.own_groups s.own_tier s.prefix s.rest own deep s.was s.now
        (group_room s.own_groups (tier_of m id) (m.width * m.height) l.body ls g (layer_of-IsLayer m id l found h).body deep)

-- ---- layers that hold no layer with the id
fewer_list : (id few many : ℕ) → ((l : Layer) → find_one id many l ≡ None → find_one id few l ≡ None) → (ls : List Layer) → layer_among id many ls ≡ None
    → layer_among id few ls ≡ None
fewer_list id few many one [] e = refl
fewer_list id few many one (l ∷ ls) e = by_one (find_one id many l) refl e (fewer_list id few many one ls)
  where
    by_one : (o : Option Layer) → find_one id many l ≡ o → or_else o (layer_among id many ls) ≡ None
        → (layer_among id many ls ≡ None → layer_among id few ls ≡ None)
        → or_else (find_one id few l) (layer_among id few ls) ≡ None
    by_one None q k later = ap (λ o. or_else o (layer_among id few ls)) (one l q) ∙ later k
    by_one (Some found) q k later = cc

fewer_own : (id few many : ℕ) (l : Layer) → (found_below id many l ≡ None → found_below id few l ≡ None) → find_one id many l ≡ None → find_one id few l ≡ None
fewer_own id few many l deeper e = find_one-is id few l ∙ by_own (has_id id l) (sym (find_one-is id many l) ∙ e)
  where
    by_own : (b : Bool) → cond b (Some l) (found_below id many l) ≡ None → cond b (Some l) (found_below id few l) ≡ None
    by_own true k = cc
    by_own false k = deeper k

-- it holds none with room for fewer groups
pub none-fewer : (id few many : ℕ) (l : Layer) → few ≤ many → find_one id many l ≡ None → find_one id few l ≡ None
none-fewer id zero many l le e = fewer_own id zero many l (λ k. refl) e
none-fewer id (suc few) zero l le e = absurd (omega (arith, le))
none-fewer id (suc few) (suc many) l le e =
    fewer_own id (suc few) (suc many) l (fewer_list id few many (λ x none. none-fewer id few many x (omega (arith, le)) none) (inside l)) e

-- one taken out of a list is not missed
gone_list : (id groups : ℕ) (ls : List Layer) (k : ℕ) (l : Layer) → slice_get ls k ≡ Some l → find_one id groups l ≡ None
    → layer_among id groups (remove ls k) ≡ layer_among id groups ls
gone_list id groups [] zero l e none = cc
gone_list id groups [] (suc k) l e none = cc
gone_list id groups (x ∷ xs) zero l e none =
    let same : x ≡ l = cc in
    sym (ap (λ o. or_else o (layer_among id groups xs)) (ap (find_one id groups) same ∙ none))
gone_list id groups (x ∷ xs) (suc k) l e none = ap (or_else (find_one id groups x)) (gone_list id groups xs k l e none)

-- ---- how many layers stand in one
-- where it is a group
abbrev room : Layer → Option ℕ
room l = option_map length (group_of l)

room-with : (f : List Layer → List Layer) → ((ls : List Layer) → length (f ls) ≡ length ls) → (l : Layer) → room (layer_with_layers f l) ≡ room l
room-with f keeps l =
    group_cases (λ b. option_map length (group_in (body_with_layers f b)) ≡ option_map length (group_in b))
    (λ b no same. ap (λ c. option_map length (group_in c)) (same f))
    (λ ls. ap (λ c. option_map length (group_in c)) (body_with_layers-Group f ls) ∙ ap (option_map length) (group_in-Group (f ls)) ∙ ap Some (keeps ls)
    ∙ sym (ap (option_map length) (group_in-Group ls)))
    l.body

mapped_else : {X Y : Type 0} (f : X → Y) (a b : Option X) → option_map f (or_else a b) ≡ or_else (option_map f a) (option_map f b)
mapped_else f None b = refl
mapped_else f (Some x) b = refl

-- the layer l is taken out of the group x, which has the id p; l holds none with the id g
module _ (p g k : ℕ) (x l : Layer) (own : List Layer) (other : p ≢ g) (are : group_of x ≡ Some own) (there : slice_get own k ≡ Some l) where
  abbrev less : List Layer → List Layer
  less ls = remove ls k

  abbrev taken : Layer → Layer
  taken = layer_with_layers less

  abbrev rooms : Option Layer → Option (Option ℕ)
  rooms = option_map room

  -- l holds none with room for as many groups
  abbrev IsFree : ℕ → Type 0
  IsFree n = (j : ℕ) → j ≤ n → find_one g j l ≡ None

  rooms_list : (n : ℕ) → ((y : Layer) → find_one p n y ≡ Some x → rooms (find_one g n (change_one p n taken y)) ≡ rooms (find_one g n y)) → (ls : List Layer)
      → layer_among p n ls ≡ Some x → rooms (layer_among g n (change_among p n taken ls)) ≡ rooms (layer_among g n ls)
  rooms_list n one [] e = cc
  rooms_list n one (y ∷ ys) e = by_one (find_one p n y) refl e (rooms_list n one ys)
    where
      by_one : (o : Option Layer) → find_one p n y ≡ o → or_else o (layer_among p n ys) ≡ Some x
          → (layer_among p n ys ≡ Some x → rooms (layer_among g n (change_among p n taken ys)) ≡ rooms (layer_among g n ys))
          → rooms (layer_among g n (cond (is_some (find_one p n y)) (change_one p n taken y ∷ ys) (y ∷ change_among p n taken ys)))
          ≡ rooms (or_else (find_one g n y) (layer_among g n ys))
      by_one None q h later =
          rw q (mapped_else room (find_one g n y) (layer_among g n (change_among p n taken ys))
          ∙ ap (or_else (rooms (find_one g n y))) (later h) ∙ sym (mapped_else room (find_one g n y) (layer_among g n ys)))
      by_one (Some found) q h later =
          let is : Some found ≡ Some x = h in
          let first = one y (q ∙ is) in
          rw q (mapped_else room (find_one g n (change_one p n taken y)) (layer_among g n ys)
          ∙ ap (λ o. or_else o (rooms (layer_among g n ys))) first ∙ sym (mapped_else room (find_one g n y) (layer_among g n ys)))

  -- the group itself
  below_taken : (n : ℕ) (y : Layer) → y ≡ x → IsFree n → found_below g n (taken y) ≡ found_below g n y
  below_taken zero y is free = refl
  below_taken (suc n) y is free =
      let here : group_of y ≡ Some own = ap group_of is ∙ are in
      ap (λ o. layer_among g n (or_empty o)) (group_of-with less y own here)
      ∙ gone_list g n own k l there (free n (omega arith))
      ∙ sym (ap (λ o. layer_among g n (or_empty o)) here)

  found_taken : (n : ℕ) (y : Layer) → has_id p y ≡ true → y ≡ x → IsFree n → find_one g n (taken y) ≡ find_one g n y
  found_taken n y has is free =
      let passed : has_id g y ≡ false = grind (arith, nat_tests, has, other) in
      let after : find_one g n (taken y) ≡ found_below g n (taken y) = find_one-is g n (taken y) ∙ rw passed refl in
      let before : find_one g n y ≡ found_below g n y = find_one-is g n y ∙ rw passed refl in
      after ∙ below_taken n y is free ∙ sym before

  rooms_own : (n : ℕ) (y : Layer) → IsFree n → (found_below p n y ≡ Some x → rooms (find_one g n (changed_below p n taken y)) ≡ rooms (find_one g n y))
      → find_one p n y ≡ Some x → rooms (find_one g n (change_one p n taken y)) ≡ rooms (find_one g n y)
  rooms_own n y free deeper e = rw (change_one-is p n taken y) (by_own (has_id p y) refl (sym (find_one-is p n y) ∙ e))
    where
      by_own : (b : Bool) → has_id p y ≡ b → cond b (Some y) (found_below p n y) ≡ Some x
          → rooms (find_one g n (cond b (taken y) (changed_below p n taken y))) ≡ rooms (find_one g n y)
      by_own true q h = let is : y ≡ x = cc in ap rooms (found_taken n y q is free)
      by_own false q h = deeper h

  -- a group in which layers change, and stay as many
  rooms_within : (n : ℕ) (y : Layer) (f : List Layer → List Layer) → f [] ≡ [] → ((ls : List Layer) → length (f ls) ≡ length ls)
      → rooms (layer_among g n (f (inside y))) ≡ rooms (layer_among g n (inside y))
      → rooms (find_one g (suc n) (layer_with_layers f y)) ≡ rooms (find_one g (suc n) y)
  rooms_within n y f none keeps later = by_own (has_id g y) refl
    where
      by_own : (b : Bool) → has_id g y ≡ b → rooms (find_one g (suc n) (layer_with_layers f y)) ≡ rooms (find_one g (suc n) y)
      by_own true q =
          let after : find_one g (suc n) (layer_with_layers f y) ≡ Some (layer_with_layers f y) = find_one-is g (suc n) (layer_with_layers f y) ∙ rw q refl in
          let before : find_one g (suc n) y ≡ Some y = find_one-is g (suc n) y ∙ rw q refl in
          ap rooms after ∙ ap Some (room-with f keeps y) ∙ sym (ap rooms before)
      by_own false q =
          let after : find_one g (suc n) (layer_with_layers f y) ≡ layer_among g n (inside (layer_with_layers f y)) =
          find_one-is g (suc n) (layer_with_layers f y) ∙ rw q refl in
          let before : find_one g (suc n) y ≡ layer_among g n (inside y) = find_one-is g (suc n) y ∙ rw q refl in
          ap rooms after ∙ ap (λ ys. rooms (layer_among g n ys)) (inside-with f none y) ∙ later ∙ sym (ap rooms before)

  rooms_one : (n : ℕ) (y : Layer) → IsFree n → find_one p n y ≡ Some x → rooms (find_one g n (change_one p n taken y)) ≡ rooms (find_one g n y)
  rooms_one zero y free e = rooms_own zero y free (λ h. cc) e
  rooms_one (suc n) y free e =
      rooms_own (suc n) y free
      (λ h. rooms_within n y (change_among p n taken) refl (length-change_first (holds p n) (change_one p n taken))
      (rooms_list n (λ z found. rooms_one n z (λ j low. free j (omega (arith, low))) found) (inside y) h)) e

  pub rooms-taken : (n : ℕ) (ls : List Layer) → IsFree n → layer_among p n ls ≡ Some x
      → rooms (layer_among g n (change_among p n taken ls)) ≡ rooms (layer_among g n ls)
  rooms-taken n ls free e = rooms_list n (λ y found. rooms_one n y free found) ls e

-- ---- the layers of a parent, once a layer is taken out
-- so many layers are those of the parent
abbrev HasSiblings : MapParts → Option ℕ → ℕ → Type 0
HasSiblings m parent count = (ls : List Layer) × ((siblings_of m parent ≡ Some ls) × (length ls ≡ count))

length-less : (ls : List Layer) (k : ℕ) (l : Layer) → slice_get ls k ≡ Some l → length (remove ls k) ≡ length ls - 1
length-less ls k l there = let less = length-remove ls k (slice_get-within ls k l there) in omega (arith, less)

-- the same parent
own_siblings : (parent : Option ℕ) (k : ℕ) (m : MapParts) (ls : List Layer) (l : Layer) → siblings_of m parent ≡ Some ls → slice_get ls k ≡ Some l
    → HasSiblings (with_siblings parent (λ ks. remove ks k) m) parent (length ls - 1)
own_siblings None k m ls l e there = (remove ls k, (ap (λ o. option_map (λ ks. remove ks k) o) e, length-less ls k l there))
own_siblings (Some id) k m ls l e there =
    (remove ls k, ((siblings-laws (Some id)).get-update (λ ks. remove ks k) ls (document_of m) e, length-less ls k l there))

-- a group with another id
group_siblings : (g : ℕ) (m n : MapParts) (ls : List Layer) → siblings_of m (Some g) ≡ Some ls → option_map room (layer_of n g) ≡ option_map room (layer_of m g)
    → HasSiblings n (Some g) (length ls)
group_siblings g m n ls e same = by_layers (layer_of m g) (layer_of n g) e same
  where
    by_groups : (o : Option (List Layer)) → option_map length o ≡ Some (length ls) → (ks : List Layer) × ((o ≡ Some ks) × (length ks ≡ length ls))
    by_groups None q = cc
    by_groups (Some ks) q = let is : length ks ≡ length ls = cc in (ks, (refl, is))

    by_layers : (a b : Option Layer) → option_and_then group_of a ≡ Some ls → option_map room b ≡ option_map room a
        → (ks : List Layer) × ((option_and_then group_of b ≡ Some ks) × (length ks ≡ length ls))
    by_layers None b h q = cc
    by_layers (Some y) None h q = cc
    by_layers (Some y) (Some z) h q =
        let is : room z ≡ room y = cc in
        by_groups (group_of z) (is ∙ ap (option_map length) h)

-- the layer with an id, in which the layers of a group are found
group_with : (m : MapParts) (id : ℕ) (own : List Layer) → siblings_of m (Some id) ≡ Some own
    → (x : Layer) × ((layer_of m id ≡ Some x) × (group_of x ≡ Some own))
group_with m id own e = by_layer (layer_of m id) e
  where
    by_layer : (o : Option Layer) → option_and_then group_of o ≡ Some own → (x : Layer) × ((o ≡ Some x) × (group_of x ≡ Some own))
    by_layer None h = cc
    by_layer (Some x) h = (x, (refl, h))

-- it has none with the id
pub free-none : (l : Layer) (g : ℕ) → holds g MAX_GROUPS l ≡ false → find_one g MAX_GROUPS l ≡ None
free-none l g free = by_found (find_one g MAX_GROUPS l) free
  where
    by_found : (o : Option Layer) → is_some o ≡ false → o ≡ None
    by_found None h = refl
    by_found (Some x) h = cc

-- from the place k of the parent p
siblings-left : (p parent : Option ℕ) (k : ℕ) (m : MapParts) (own ls : List Layer) (l : Layer) → siblings_of m p ≡ Some own → slice_get own k ≡ Some l
    → siblings_of m parent ≡ Some ls → is_parent_in l parent ≡ false
    → HasSiblings (with_siblings p (λ ks. remove ks k) m) parent (cond (is_same_parent p parent) (length ls - 1) (length ls))
siblings-left None None k m own ls l e there f free =
    let same : own ≡ ls = cc in
    own_siblings None k m ls l f (subst (λ ks. slice_get ks k ≡ Some l) same there)
siblings-left None (Some g) k m own ls l e there f free =
    let same : own ≡ m.layers = cc in
    group_siblings g m (with_siblings None (λ ks. remove ks k) m) ls f
    (ap (option_map room) (gone_list g MAX_GROUPS m.layers k l (subst (λ ks. slice_get ks k ≡ Some l) same there) (free-none l g free)))
siblings-left (Some p) None k m own ls l e there f free =
    let same : m.layers ≡ ls = cc in (
      change_among p MAX_GROUPS (layer_with_layers (λ ks. remove ks k)) m.layers,
      (
        refl,
        length-change_first (holds p MAX_GROUPS)
            (change_one p MAX_GROUPS (layer_with_layers (λ ks. remove ks k))) m.layers ∙ ap length same,
      ),
    )
siblings-left (Some p) (Some g) k m own ls l e there f free = by_test (nat_eq p g) refl
  where
    by_test : (b : Bool) → nat_eq p g ≡ b
        → HasSiblings (with_siblings (Some p) (λ ks. remove ks k) m) (Some g) (cond b (length ls - 1) (length ls))
    by_test true q =
        let same : p ≡ g = eqb-true p g q in
        let both : siblings_of m (Some g) ≡ Some own = subst (λ n. siblings_of m (Some n) ≡ Some own) same e in
        let are : own ≡ ls = cc (both, f) in
        subst (λ n. HasSiblings (with_siblings (Some n) (λ ks. remove ks k) m) (Some g) (length ls - 1)) (sym same)
        (own_siblings (Some g) k m ls l f (subst (λ ks. slice_get ks k ≡ Some l) are there))
    by_test false q =
        let other : p ≢ g = grind (arith, nat_tests, q) in
        let x = group_with m p own e in
        let none = free-none l g free in
        group_siblings g m (with_siblings (Some p) (λ ks. remove ks k) m) ls f
        (rooms-taken p g k x.0 l own other x.1.1 there MAX_GROUPS m.layers (λ j low. none-fewer g j MAX_GROUPS l low none) x.1.0)

-- the layers of a parent that is not the layer, and does not stand in it, beside that layer
pub siblings-without : (m : MapParts) (from : LayerPlace) (parent : Option ℕ) (own ls : List Layer) (l : Layer) → siblings_of m from.parent ≡ Some own
    → slice_get own from.at ≡ Some l → siblings_of m parent ≡ Some ls → is_parent_in l parent ≡ false
    → (others : List Layer) × ((siblings_of (without_layer_at from m) parent ≡ Some others) × (length others ≡ other_layers from parent ls))
siblings-without m from parent own ls l e there f free = siblings-left from.parent parent from.at m own ls l e there f free
