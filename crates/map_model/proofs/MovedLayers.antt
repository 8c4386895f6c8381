-- A layer that goes to another parent keeps a map well formed.
use Rattle.std.proofs.Common.{◌≡◌, ℕ, suc, ◌+◌, ◌*◌, List, [], ◌∷◌, ◌++◌, append-nil, take, drop, length, length-append, true, false, find, Option, Some, None}
use Rattle.std.proofs.Common.{option_map, option_and_then, refl, sym, ap, ◌∙◌, arith}
use Rattle.std.specs.List.{flat_map, insert, remove, slice_get}
use Rattle.std.proofs.lemmas.Grind.{flat_map-append}
use Rattle.map_model.specs.declared.limits.TheConstants.{MAX_GROUPS}
use Rattle.map_model.specs.declared.parts.Layer.{Layer}
use Rattle.map_model.specs.declared.parts.MapParts.{MapParts}
use Rattle.map_model.specs.declared.place.LayerPlace.{LayerPlace}
use Rattle.map_model.specs.Groups.{all_drawn, change_among, holds, layer_with_layers, tree}
use Rattle.map_model.specs.Keeping.{inner_tier, layer_tier}
use Rattle.map_model.specs.Layers.{layer_at, siblings_of, with_layer_at, with_siblings, without_layer_at}
use Rattle.map_model.specs.Lists.{Each, or_else}
use Rattle.map_model.specs.Moving.{is_parent_in, layer_fits, other_layers, tier_in}
use Rattle.map_model.specs.Properties.{is_drawn_with, tier_by, tier_of}
use Rattle.map_model.specs.WellFormed.{AreDrawn, AreLayers, IsDrawn, IsWellFormed, ids_of, object_ids_in, object_ids_of}
use Rattle.map_model.proofs.Keeps.{AreDrawn-replaced, AreDrawn-taken, IsReplaced-within, layers-IsWellFormed, piece-IsDrawn, removed-keeps}
use Rattle.map_model.proofs.Listings.{AreNewIds-piece, Each-prefix, IsReplaced, flat-IsReplaced, insert-IsReplaced, remove-IsReplaced, take-one}
use Rattle.map_model.proofs.OtherTiers.{drawn-at, read-at, whole}
use Rattle.map_model.proofs.Parents.{StandWithin, free-none, none-fewer, siblings-without, stand_within}
use Rattle.map_model.proofs.Tiers.{tier_found, tier_found-append}
use Rattle.map_model.proofs.Trees.{length-tree, none_one}

-- ---- lists in drawing order
length-out : {X : Type 0} {prefix piece rest xs ys : List X} → IsReplaced prefix piece [] rest xs ys → length ys + length piece ≡ length xs
length-out {prefix = prefix} {piece = piece} {rest = rest} r =
    let was = ap length r.was ∙ length-append prefix (piece ++ rest) in
    let now = ap length r.now ∙ length-append prefix rest in
    omega (arith, was, now, length-append piece rest)

-- a piece is taken out, and one that has the same ids is put in at another place
AreDrawn-into : {size next next_object : ℕ} {prefix piece rest before new behind xs ys zs : List (ℕ × Layer)} → IsReplaced prefix piece [] rest xs ys
    → IsReplaced before [] new behind ys zs
    → length new ≡ length piece → Each (IsDrawn size) new → flat_map ids_of new ≡ flat_map ids_of piece
    → flat_map object_ids_of new ≡ flat_map object_ids_of piece
    → AreDrawn size next next_object xs → AreDrawn size next next_object zs
AreDrawn-into {next = next} {next_object = next_object} {prefix = prefix} {piece = piece} {rest = rest} {before = before} {new = new} {behind = behind} r q
    long each ids objects h =
    let between : prefix ++ rest ≡ before ++ behind = sym r.now ∙ q.was in
    AreDrawn-replaced q (AreDrawn-taken r h) (let out = length-out r in omega (arith, out, long, h.few)) each
    (rw (ids, ← flat_map-append ids_of before behind, ← between, flat_map-append ids_of prefix rest) (AreNewIds-piece (flat-IsReplaced ids_of r) h.layer_ids))
    (rw (objects, ← flat_map-append object_ids_of before behind, ← between, flat_map-append object_ids_of prefix rest)
    (AreNewIds-piece (flat-IsReplaced object_ids_of r) h.object_ids))

-- ---- tiers
-- a layer that does not stand in a piece is found without it too
found_without : (id : ℕ) {prefix piece rest xs ys : List (ℕ × Layer)} → IsReplaced prefix piece [] rest xs ys → tier_found id piece ≡ None
    → tier_found id ys ≡ tier_found id xs
found_without id {prefix = prefix} {piece = piece} {rest = rest} r none =
    ap (tier_found id) r.now ∙ tier_found-append id prefix rest
    ∙ ap (λ o. or_else (tier_found id prefix) (or_else o (tier_found id rest))) (sym none)
    ∙ sym (ap (tier_found id) r.was ∙ tier_found-append id prefix (piece ++ rest) ∙ ap (or_else (tier_found id prefix)) (tier_found-append id piece rest))

abbrev tier_or : Option ℕ → ℕ
tier_or None = layer_tier
tier_or (Some tier) = tier

by_tier : (id : ℕ) (m : MapParts) → tier_of m id ≡ tier_or (tier_found id (all_drawn m.layers))
by_tier id m = by_found (find (is_drawn_with id) (all_drawn m.layers))
  where
    by_found : (o : Option (ℕ × Layer)) → tier_by o ≡ tier_or (option_map (λ d. d.0) o)
    by_found None = refl
    by_found (Some d) = refl

-- ---- maps with other layers of a parent
module _ (p : Option ℕ) (f : List Layer → List Layer) (m : MapParts) where
  -- the sizes and the next ids stay
  AreLayers-with : (ls : List Layer) → AreLayers (m.width * m.height) m.next_layer_id m.next_object_id ls
      → AreLayers ((with_siblings p f m).width * (with_siblings p f m).height) (with_siblings p f m).next_layer_id (with_siblings p f m).next_object_id ls
  AreLayers-with ls = by_parent p
    where
      by_parent : (p : Option ℕ) → AreLayers (m.width * m.height) m.next_layer_id m.next_object_id ls
          → AreLayers ((with_siblings p f m).width * (with_siblings p f m).height) (with_siblings p f m).next_layer_id (with_siblings p f m).next_object_id ls
      by_parent None h = h
      by_parent (Some id) h = h

  pub with_siblings-IsWellFormed : AreLayers (m.width * m.height) m.next_layer_id m.next_object_id (with_siblings p f m).layers → IsWellFormed m
      → IsWellFormed (with_siblings p f m)
  with_siblings-IsWellFormed = by_parent p
    where
      by_parent : (p : Option ℕ) → AreLayers (m.width * m.height) m.next_layer_id m.next_object_id (with_siblings p f m).layers → IsWellFormed m
          → IsWellFormed (with_siblings p f m)
      by_parent None are h = layers-IsWellFormed m (f m.layers) are h
      by_parent (Some id) are h = layers-IsWellFormed m (change_among id MAX_GROUPS (layer_with_layers f) m.layers) are h

-- ---- the layer l of the list own, taken out
module _ (m : MapParts) (from : LayerPlace) (own : List Layer) (l : Layer) (e : siblings_of m from.parent ≡ Some own)
    (there : slice_get own from.at ≡ Some l) (h : IsWellFormed m) where
  abbrev rest : MapParts
  rest = without_layer_at from m

  s : StandWithin m from.parent own
  s = stand_within m from.parent own e h

  abbrev a : ℕ
  a = tier_in m from.parent

  abbrev size : ℕ
  size = m.width * m.height

  gone : IsReplaced (s.prefix ++ flat_map (tree s.groups a) (take from.at own)) (tree s.groups a l ++ []) []
      (flat_map (tree s.groups a) (drop (suc from.at) own) ++ s.rest) (all_drawn m.layers) (all_drawn rest.layers)
  gone =
      let r = IsReplaced-within s.prefix s.rest
      (flat-IsReplaced (tree s.groups a) (rw (take-one own from.at l there) at (remove-IsReplaced own from.at))) in
      record { was = s.was ∙ r.was; now = s.now (λ ks. remove ks from.at) ∙ r.now }

  rest-IsWellFormed : IsWellFormed rest
  rest-IsWellFormed = removed-keeps m from.parent own e h from.at

  -- a layer that is not l, and does not stand in it, keeps its tier
  tier_of-rest : (g : ℕ) → holds g MAX_GROUPS l ≡ false → tier_of rest g ≡ tier_of m g
  tier_of-rest g free =
      let none : tier_found g (tree s.groups a l ++ []) ≡ None =
      ap (tier_found g) (append-nil (tree s.groups a l))
      ∙ ap (option_map (λ d. d.0)) (none_one g s.groups a l (none-fewer g s.groups MAX_GROUPS l s.few (free-none l g free))) in
      by_tier g rest ∙ ap tier_or (found_without g gone none) ∙ sym (by_tier g m)

  pub tier_in-rest : (parent : Option ℕ) → is_parent_in l parent ≡ false → tier_in rest parent ≡ tier_in m parent
  tier_in-rest None free = refl
  tier_in-rest (Some g) free = ap inner_tier (tier_of-rest g free)

  -- put in at a place where it fits, it stands among the others
  pub put_layer-keeps : (to : LayerPlace) (ls : List Layer) → siblings_of rest to.parent ≡ Some ls → layer_fits (tier_in rest to.parent) l ≡ true
      → IsWellFormed (with_layer_at to l rest)
  put_layer-keeps to ls f fits =
      let b = tier_in rest to.parent in
      let q = stand_within rest to.parent ls f rest-IsWellFormed in
      let old : Each (IsDrawn size) (tree s.groups a l) = Each-prefix (IsDrawn size) (tree s.groups a l) [] (piece-IsDrawn gone h.layers) in
      let all_old : tree MAX_GROUPS a l ≡ tree s.groups a l = whole size s.groups s.groups MAX_GROUPS a l (omega arith) s.few s.deep old in
      let drawn_old : Each (IsDrawn size) (tree MAX_GROUPS a l) = rw all_old old in
      let drawn_new : Each (IsDrawn size) (tree MAX_GROUPS b l) = drawn-at size MAX_GROUPS a b l drawn_old fits in
      let all_new : tree MAX_GROUPS b l ≡ tree q.groups b l = whole size q.groups MAX_GROUPS MAX_GROUPS b l q.few q.few q.deep drawn_new in
      let new : Each (IsDrawn size) (tree q.groups b l) = rw (← all_new) drawn_new in
      let r = IsReplaced-within q.prefix q.rest (flat-IsReplaced (tree q.groups b) (insert-IsReplaced ls to.at l)) in
      let put : IsReplaced (q.prefix ++ flat_map (tree q.groups b) (take to.at ls)) [] (tree q.groups b l ++ [])
      (flat_map (tree q.groups b) (drop to.at ls) ++ q.rest) (all_drawn rest.layers) (all_drawn (with_layer_at to l rest).layers) =
      record { was = q.was ∙ r.was; now = q.now (λ ks. insert ks to.at l) ∙ r.now } in
      let before : tree MAX_GROUPS a l ≡ tree s.groups a l ++ [] = all_old ∙ sym (append-nil (tree s.groups a l)) in
      let behind : tree q.groups b l ++ [] ≡ tree MAX_GROUPS b l = append-nil (tree q.groups b l) ∙ sym all_new in
      with_siblings-IsWellFormed to.parent (λ ks. insert ks to.at l) rest
      (AreLayers-with from.parent (λ ks. remove ks from.at) m (with_layer_at to l rest).layers (AreDrawn-into gone put
      (ap length behind ∙ length-tree MAX_GROUPS b a l ∙ ap length before) (rw (append-nil (tree q.groups b l)) new)
      (ap (flat_map ids_of) behind ∙ read-at (λ x. x.id ∷ []) MAX_GROUPS b a l ∙ ap (flat_map ids_of) before)
      (ap (flat_map object_ids_of) behind ∙ read-at (λ x. object_ids_in x.body) MAX_GROUPS b a l ∙ ap (flat_map object_ids_of) before)
      h.layers)) rest-IsWellFormed

-- ---- a layer that goes to another place
-- the layers of the parent that it goes to, beside it
pub layer_into-others : (m : MapParts) (from : LayerPlace) (l : Layer) (parent : Option ℕ) (ls : List Layer) → layer_at m from ≡ Some l
    → siblings_of m parent ≡ Some ls → is_parent_in l parent ≡ false
    → (others : List Layer) × ((siblings_of (without_layer_at from m) parent ≡ Some others) × (length others ≡ other_layers from parent ls))
layer_into-others m from l parent ls there are free = by_own (siblings_of m from.parent) refl there
  where
    by_own : (o : Option (List Layer)) → siblings_of m from.parent ≡ o → option_and_then (λ ks. slice_get ks from.at) o ≡ Some l
        → (others : List Layer) × ((siblings_of (without_layer_at from m) parent ≡ Some others) × (length others ≡ other_layers from parent ls))
    by_own None e q = cc
    by_own (Some own) e q = siblings-without m from parent own ls l e q are free

-- the map is well formed once the layer stands there
pub layer_into-keeps : (m : MapParts) (from to : LayerPlace) (l : Layer) (others : List Layer) → layer_at m from ≡ Some l
    → siblings_of (without_layer_at from m) to.parent ≡ Some others → is_parent_in l to.parent ≡ false → layer_fits (tier_in m to.parent) l ≡ true
    → IsWellFormed m → IsWellFormed (with_layer_at to l (without_layer_at from m))
layer_into-keeps m from to l others there are free fits h = by_own (siblings_of m from.parent) refl there
  where
    by_own : (o : Option (List Layer)) → siblings_of m from.parent ≡ o → option_and_then (λ ks. slice_get ks from.at) o ≡ Some l
        → IsWellFormed (with_layer_at to l (without_layer_at from m))
    by_own None e q = cc
    by_own (Some own) e q =
        put_layer-keeps m from own l e q h to others are (ap (λ tier. layer_fits tier l) (tier_in-rest m from own l e q h to.parent free) ∙ fits)
