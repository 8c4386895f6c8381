-- Changes that keep a map well formed, and where its cells stand.
use Rattle.std.proofs.Common.{◌≡◌, ◌≢◌, IsUtf8, ℕ, zero, suc, ◌+◌, ◌*◌, ◌^◌, ◌<◌, ◌≤◌, List, [], ◌∷◌, ◌++◌, append-nil, append_assoc, length, length-append}
use Rattle.std.proofs.Common.{take, drop, Bool, true, false, cond, find, Option, Some, None, IsSome, IsSomeAnd, option_and_then, refl, sym, ap, ◌∙◌, subst}
use Rattle.std.proofs.Common.{arith}
use Rattle.std.specs.List.{flat_map, slice_get, insert, remove}
use Rattle.std.proofs.lemmas.Nat.{mul-add-lt}
use Rattle.std.proofs.lemmas.Grind.{flat_map-append}
use Rattle.map_model.specs.declared.limits.TheConstants.{MAX_GROUPS, MAX_LAYERS, MAX_NEXT_ID}
use Rattle.map_model.specs.declared.parts.Body.{Body}
use Rattle.map_model.specs.declared.parts.Body.TheVariants.{Tiles, Group'}
use Rattle.map_model.specs.declared.parts.Layer.{Layer}
use Rattle.map_model.specs.declared.parts.MapParts.{MapParts}
use Rattle.map_model.specs.declared.edit.CellEdit.{CellEdit}
use Rattle.map_model.specs.declared.place.LayerPlace.{LayerPlace}
use Rattle.std.specs.FinSet as set
use Rattle.region.specs.Cells.{cell_cmp}
use Rattle.map_model.specs.Document.{IsSelectionOf}
use Rattle.map_model.specs.Lists.{Each, or_empty}
use Rattle.map_model.specs.Bodies.{IsTiles, tiles_of}
use Rattle.map_model.specs.Lookups.{layer_of, HasTiles, tiles_of_layer, tiles_in, layer_with_tiles, IsWithin}
use Rattle.map_model.specs.CellEdits.{IsBelow}
use Rattle.map_model.specs.Groups.{all_drawn, bare, change_among, drawn, group_in, group_of, inside, layer_with_layers, tree}
use Rattle.map_model.specs.Keeping.{deepest_tier, inner_tier, layer_tier}
use Rattle.map_model.specs.Layers.{layer_at, layer_with_name, layer_with_visible, siblings_of, with_next_ids, with_siblings, without_layer_at}
use Rattle.map_model.specs.Properties.{tier_by, tier_of}
use Rattle.map_model.specs.WellFormed.{IsId, AreIds, IsTileValue, IsBody, IsDrawn, IsLayer, AreDrawn, AreLayers, IsWellFormed, ids_of, object_ids_in}
use Rattle.map_model.specs.WellFormed.{object_ids_of, object_ids}
use Rattle.map_model.proofs.BodyLaws.{IsLayer-contents, group_in-contents, object_ids-contents}
use Rattle.map_model.proofs.GroupBodies.{IsLayer-with, IsLayer-without, bare-with, group_of-with, object_ids-with}
use Rattle.map_model.proofs.Listings.{Each-append, Each-prefix, Each-rest, IsReplaced, flat-IsReplaced, insert-IsReplaced, remove-IsReplaced, take-one}
use Rattle.map_model.proofs.Listings.{AreNewIds, AreNewIds-none, AreIds-replaced, AreNewIds-piece}
use Rattle.map_model.proofs.Trees.{Stands, below, change_among-none, stands, tree-is}

-- ---- other layers in the place of a map's
pub layers-IsWellFormed : (m : MapParts) (ls : List Layer) → AreLayers (m.width * m.height) m.next_layer_id m.next_object_id ls → IsWellFormed m
    → IsWellFormed (record m { layers = ls })
layers-IsWellFormed m ls are h = record {
  size = h.size;
  tile_size = h.tile_size;
  layers = are;
  tilesets = h.tilesets;
  properties = h.properties;
  kept = h.kept;
}

-- ---- lists in drawing order, with a piece replaced
length-pieces : {X : Type 0} {prefix piece new rest xs ys : List X} → IsReplaced prefix piece new rest xs ys → length ys + length piece ≡ length xs + length new
length-pieces {prefix = prefix} {piece = piece} {new = new} {rest = rest} r =
    let was = ap length r.was ∙ length-append prefix (piece ++ rest) in
    let now = ap length r.now ∙ length-append prefix (new ++ rest) in
    omega (arith, was, now, length-append piece rest, length-append new rest)

-- a piece within a longer list
pub IsReplaced-within : {X : Type 0} {prefix piece new rest xs ys : List X} (before behind : List X) → IsReplaced prefix piece new rest xs ys
    → IsReplaced (before ++ prefix) piece new (rest ++ behind) (before ++ (xs ++ behind)) (before ++ (ys ++ behind))
IsReplaced-within {X = X} {prefix = prefix} {piece = piece} {new = new} {rest = rest} before behind r = record {
  was = ap (λ zs. before ++ (zs ++ behind)) r.was ∙ ap (λ zs. before ++ zs) (longer piece) ∙ sym (append_assoc before prefix (piece ++ (rest ++ behind)));
  now = ap (λ zs. before ++ (zs ++ behind)) r.now ∙ ap (λ zs. before ++ zs) (longer new) ∙ sym (append_assoc before prefix (new ++ (rest ++ behind)));
}
  where
    longer : (p : List X) → (prefix ++ (p ++ rest)) ++ behind ≡ prefix ++ (p ++ (rest ++ behind))
    longer p = append_assoc prefix (p ++ rest) behind ∙ ap (λ zs. prefix ++ zs) (append_assoc p rest behind)

IsReplaced-as : {X : Type 0} {prefix piece new rest xs ys vs ws : List X} → vs ≡ xs → ws ≡ ys → IsReplaced prefix piece new rest xs ys
    → IsReplaced prefix piece new rest vs ws
IsReplaced-as e f r = record { was = e ∙ r.was; now = f ∙ r.now }

-- what is the same of the old piece and the new one is the same of both lists
flat-same : {X A : Type 0} (g : X → List A) {prefix piece new rest xs ys : List X} → IsReplaced prefix piece new rest xs ys → flat_map g new ≡ flat_map g piece
    → flat_map g ys ≡ flat_map g xs
flat-same g {prefix = prefix} {rest = rest} r same =
    let f = flat-IsReplaced g r in
    f.now ∙ ap (λ p. flat_map g prefix ++ (p ++ flat_map g rest)) same ∙ sym f.was

module _ {size next next_object : ℕ} {prefix piece new rest xs ys : List (ℕ × Layer)} (r : IsReplaced prefix piece new rest xs ys)
    (h : AreDrawn size next next_object xs) where
  was-each : Each (IsDrawn size) (prefix ++ (piece ++ rest))
  was-each = rw (← r.was) h.each

  pub piece-IsDrawn : Each (IsDrawn size) piece
  piece-IsDrawn = Each-prefix (IsDrawn size) piece rest (Each-rest (IsDrawn size) prefix (piece ++ rest) was-each)

  now-each : Each (IsDrawn size) new → Each (IsDrawn size) ys
  now-each k =
      rw r.now (Each-append (IsDrawn size) prefix (new ++ rest) (Each-prefix (IsDrawn size) prefix (piece ++ rest) was-each)
      (Each-append (IsDrawn size) new rest k (Each-rest (IsDrawn size) piece rest (Each-rest (IsDrawn size) prefix (piece ++ rest) was-each))))

  -- another piece, as long, with the same ids of layers
  pub AreDrawn-changed : length new ≡ length piece → Each (IsDrawn size) new → flat_map ids_of new ≡ flat_map ids_of piece
      → AreIds next_object (flat_map object_ids_of ys) → AreDrawn size next next_object ys
  AreDrawn-changed long k same objects = record {
    few = let lengths = length-pieces r in omega (arith, lengths, long, h.few);
    each = now-each k;
    layer_ids = rw (flat-same ids_of r same) h.layer_ids;
    object_ids = objects;
  }

  -- another piece with new ids
  pub AreDrawn-replaced : length xs + length new ≤ MAX_LAYERS → Each (IsDrawn size) new
      → AreNewIds next (flat_map ids_of new) (flat_map ids_of prefix ++ flat_map ids_of rest)
      → AreNewIds next_object (flat_map object_ids_of new) (flat_map object_ids_of prefix ++ flat_map object_ids_of rest) → AreDrawn size next next_object ys
  AreDrawn-replaced few k ids objects = record {
    few = let lengths = length-pieces r in omega (arith, lengths, few);
    each = now-each k;
    layer_ids = AreIds-replaced (flat-IsReplaced ids_of r) h.layer_ids ids;
    object_ids = AreIds-replaced (flat-IsReplaced object_ids_of r) h.object_ids objects;
  }

-- without the piece
pub AreDrawn-taken : {size next next_object : ℕ} {prefix piece rest xs ys : List (ℕ × Layer)} → IsReplaced prefix piece [] rest xs ys
    → AreDrawn size next next_object xs → AreDrawn size next next_object ys
AreDrawn-taken {next = next} {next_object = next_object} {prefix = prefix} {rest = rest} r h =
    AreDrawn-replaced r h (omega (arith, h.few)) tt (AreNewIds-none next (flat_map ids_of prefix ++ flat_map ids_of rest))
    (AreNewIds-none next_object (flat_map object_ids_of prefix ++ flat_map object_ids_of rest))

-- with the piece at another place
pub AreDrawn-moved : {size next next_object : ℕ} {prefix piece rest before behind xs ys zs : List (ℕ × Layer)} → IsReplaced prefix piece [] rest xs ys
    → IsReplaced before [] piece behind ys zs
    → AreDrawn size next next_object xs → AreDrawn size next next_object zs
AreDrawn-moved {next = next} {next_object = next_object} {prefix = prefix} {piece = piece} {rest = rest} {before = before} {behind = behind} r q h =
    let between : prefix ++ rest ≡ before ++ behind = sym r.now ∙ q.was in
    AreDrawn-replaced q (AreDrawn-taken r h) (let lengths = length-pieces r in omega (arith, lengths, h.few)) (piece-IsDrawn r h)
    (rw (← flat_map-append ids_of before behind, ← between, flat_map-append ids_of prefix rest) (AreNewIds-piece (flat-IsReplaced ids_of r) h.layer_ids))
    (rw (← flat_map-append object_ids_of before behind, ← between, flat_map-append object_ids_of prefix rest)
    (AreNewIds-piece (flat-IsReplaced object_ids_of r) h.object_ids))

-- ---- the layer with an id
-- what is drawn behind a layer, where the same layers stand in it
below-same : (groups tier : ℕ) (l k : Layer) → inside k ≡ inside l → below groups tier k ≡ below groups tier l
below-same zero tier l k same = refl
below-same (suc groups) tier l k same = ap (drawn groups (inner_tier tier)) same

module _ {id groups tier : ℕ} {l : Layer} {xs : List (ℕ × Layer)} {ys : (Layer → Layer) → List (ℕ × Layer)} (s : Stands id groups tier l xs ys) where
  -- the layer alone is replaced, where the same layers stand in it
  pub own-IsReplaced : (f : Layer → Layer) → inside (f l) ≡ inside l
      → IsReplaced s.prefix ((s.own_tier, bare l) ∷ []) ((s.own_tier, bare (f l)) ∷ []) (below s.own_groups s.own_tier l ++ s.rest) xs (ys f)
  own-IsReplaced f same = record {
    was = s.was ∙ ap (λ t. s.prefix ++ (t ++ s.rest)) (tree-is s.own_groups s.own_tier l);
    now = s.now f ∙ ap (λ t. s.prefix ++ (t ++ s.rest)) (tree-is s.own_groups s.own_tier (f l) ∙ ap (λ t. (s.own_tier, bare (f l)) ∷ t)
        (below-same s.own_groups s.own_tier l (f l) same));
  }

-- where the layer with an id stands in a map
pub layer-Stands : (m : MapParts) (id : ℕ) (l : Layer) → layer_of m id ≡ Some l
    → Stands id MAX_GROUPS layer_tier l (all_drawn m.layers) (λ f. all_drawn (change_among id MAX_GROUPS f m.layers))
layer-Stands m id l e = stands id MAX_GROUPS layer_tier m.layers l e

pub tier_of-found : (m : MapParts) (id : ℕ) (l : Layer) (e : layer_of m id ≡ Some l) → tier_of m id ≡ (layer-Stands m id l e).own_tier
tier_of-found m id l e = ap tier_by (layer-Stands m id l e).first

-- it is one of the map's layers
pub layer_of-IsLayer : (m : MapParts) (id : ℕ) (l : Layer) → layer_of m id ≡ Some l → IsWellFormed m → IsLayer (tier_of m id) (m.width * m.height) l
layer_of-IsLayer m id l e h =
    let own = piece-IsDrawn (own-IsReplaced (layer-Stands m id l e) (λ k. k) refl) h.layers in
    rw (tier_of-found m id l e) (IsLayer-without (λ ls. []) (layer-Stands m id l e).own_tier (m.width * m.height) l own.0)

-- that layer with f of it in its place, where the same layers stand in it
pub changed-keeps : (id : ℕ) (f : Layer → Layer) (l : Layer) (m : MapParts) → layer_of m id ≡ Some l → inside (f l) ≡ inside l → (f l).id ≡ l.id
    → IsLayer (tier_of m id) (m.width * m.height) (f l) → AreIds m.next_object_id (object_ids (change_among id MAX_GROUPS f m.layers)) → IsWellFormed m
    → IsWellFormed (record m { layers = change_among id MAX_GROUPS f m.layers })
changed-keeps id f l m e same own_id is ids h =
    let s = layer-Stands m id l e in
    let here : IsLayer s.own_tier (m.width * m.height) (f l) = rw (← tier_of-found m id l e) is in
    layers-IsWellFormed m (change_among id MAX_GROUPS f m.layers)
    (AreDrawn-changed (own-IsReplaced s f same) h.layers refl (IsLayer-with (λ ls. []) s.own_tier (m.width * m.height) (f l) here, tt)
    (ap (λ n. n ∷ []) own_id) ids) h

-- its objects' ids replaced in those of all
pub object_ids-IsReplaced : (id : ℕ) (f : Layer → Layer) (l : Layer) (m : MapParts) (e : layer_of m id ≡ Some l) → inside (f l) ≡ inside l
    → (prefix : List ℕ) × ((rest : List ℕ) × IsReplaced prefix (object_ids_in l.body) (object_ids_in (f l).body) rest (object_ids m.layers)
    (object_ids (change_among id MAX_GROUPS f m.layers)))
object_ids-IsReplaced id f l m e same =
    let r = flat-IsReplaced object_ids_of (own-IsReplaced (layer-Stands m id l e) f same) in
    let was = append-nil (object_ids_in (bare l).body) ∙ object_ids-with (λ ls. []) l.body in
    let now = append-nil (object_ids_in (bare (f l)).body) ∙ object_ids-with (λ ls. []) (f l).body in
    let s = layer-Stands m id l e in
    (flat_map object_ids_of s.prefix, (flat_map object_ids_of (below s.own_groups s.own_tier l ++ s.rest), rw (was, now) at r))

-- a change of a layer that keeps its ids and what stands in it, and keeps it one of the map's layers
pub record KeepsLayers (f : Layer → Layer) : Type 0 where
  pub ids : (l : Layer) → (f l).id ≡ l.id
  pub inside : (l : Layer) → inside (f l) ≡ inside l
  pub object_ids : (l : Layer) → object_ids_in (f l).body ≡ object_ids_in l.body
  pub layers : (tier size : ℕ) (l : Layer) → IsLayer tier size l → IsLayer tier size (f l)

pub with_layer-keeps : (id : ℕ) (f : Layer → Layer) (m : MapParts) (layers : List Layer) → layers ≡ change_among id MAX_GROUPS f m.layers → KeepsLayers f
    → IsWellFormed m → IsWellFormed (record m { layers = layers })
with_layer-keeps id f m layers is k h = rw is (by_layer (layer_of m id) refl)
  where
    by_layer : (o : Option Layer) → layer_of m id ≡ o → IsWellFormed (record m { layers = change_among id MAX_GROUPS f m.layers })
    by_layer None e = rw (change_among-none id MAX_GROUPS f m.layers e) h
    by_layer (Some l) e =
        let r = object_ids-IsReplaced id f l m e (k.inside l) in
        let same : object_ids (change_among id MAX_GROUPS f m.layers) ≡ object_ids m.layers = r.1.1.now ∙ ap (λ p. r.0 ++ (p ++ r.1.0)) (k.object_ids l)
        ∙ sym r.1.1.was in
        changed-keeps id f l m e (k.inside l) (k.ids l) (k.layers (tier_of m id) (m.width * m.height) l (layer_of-IsLayer m id l e h))
        (rw same h.layers.object_ids) h

pub layer_with_visible-keeps : (visible : Bool) → KeepsLayers (layer_with_visible visible)
layer_with_visible-keeps visible = record {
  ids = λ l. refl;
  inside = λ l. refl;
  object_ids = λ l. refl;
  layers = λ tier size l h. record { name = h.name; properties = h.properties; kept = h.kept; body = h.body };
}

pub layer_with_name-keeps : (name : List ℕ) → IsUtf8 name → KeepsLayers (layer_with_name name)
layer_with_name-keeps name utf8 = record {
  ids = λ l. refl;
  inside = λ l. refl;
  object_ids = λ l. refl;
  layers = λ tier size l h. record { name = utf8; properties = h.properties; kept = h.kept; body = h.body };
}

-- ---- the values of a layer
-- a change of values that keeps their number and their range
pub record KeepsTiles (f : List ℕ → List ℕ) : Type 0 where
  pub count : (vs : List ℕ) → length (f vs) ≡ length vs
  pub range : (vs : List ℕ) → Each IsTileValue vs → Each IsTileValue (f vs)

layer_with_tiles-keeps : (f : List ℕ → List ℕ) → KeepsTiles f → KeepsLayers (layer_with_tiles f)
layer_with_tiles-keeps f k = record {
  ids = λ l. refl;
  inside = λ l. ap or_empty (group_in-contents f (λ os. os) l.body);
  object_ids = λ l. object_ids-contents f (λ os. os) (λ os. refl) l.body;
  layers = λ tier size l h. IsLayer-contents f (λ os. os) tier size size l (λ cells e own. (k.count cells ∙ own.0, k.range cells own.1)) (λ os e own. own) h;
}

pub with_tiles-keeps : (id : ℕ) (f : List ℕ → List ℕ) (m : MapParts) (layers : List Layer) → layers ≡ change_among id MAX_GROUPS (layer_with_tiles f) m.layers
    → KeepsTiles f → IsWellFormed m → IsWellFormed (record m { layers = layers })
with_tiles-keeps id f m layers is k h = with_layer-keeps id (layer_with_tiles f) m layers is (layer_with_tiles-keeps f k) h

pub Each-found : {X : Type 0} (p : X → Bool) (P : X → Type 0) (xs : List X) (x : X) → find p xs ≡ Some x → Each P xs → P x
Each-found p P [] x e h = cc
Each-found p P (y ∷ ys) x e h = by_test (p y) e (λ q. Each-found p P ys x q h.1)
  where
    by_test : (b : Bool) → cond b (Some y) (find p ys) ≡ Some x → (find p ys ≡ Some x → P x) → P x
    by_test true q later = let is : y ≡ x = cc in subst P is h.0
    by_test false q later = later q

length-tiles_of : (tier size : ℕ) (b : Body) → IsTiles b → IsBody tier size b → length (tiles_of b) ≡ size
length-tiles_of tier size (Tiles e cells) t h = h.0
length-tiles_of tier size b t h = absurd t

-- a tile layer has a value for each cell of the map
pub length-tiles_in : (m : MapParts) (id : ℕ) → HasTiles m id → IsWellFormed m → length (tiles_in m id) ≡ m.width * m.height
length-tiles_in m id t h = by_layer (layer_of m id) refl t
  where
    by_layer : (o : Option Layer) → layer_of m id ≡ o → IsSomeAnd o (λ l. IsTiles l.body) → length (tiles_of_layer o) ≡ m.width * m.height
    by_layer None e q = absurd q
    by_layer (Some l) e q = length-tiles_of (tier_of m id) (m.width * m.height) l.body q (layer_of-IsLayer m id l e h).body

pub number-within : (m : MapParts) (id x y number : ℕ) → number ≡ y * m.width + x → x < m.width → y < m.height → HasTiles m id → IsWellFormed m
    → number < length (tiles_in m id)
number-within m id x y number is column row t h =
    let size = length-tiles_in m id t h in
    let inside = mul-add-lt y m.width x m.height row column in
    omega arith

pub numbers-within : (m : MapParts) (id : ℕ) (es : List CellEdit) → Each (IsWithin m) es → HasTiles m id → IsWellFormed m
    → Each (IsBelow m.width (length (tiles_in m id))) es
numbers-within m id [] h t w = tt
numbers-within m id (e ∷ es) h t w = (number-within m id e.x e.y (e.y * m.width + e.x) refl h.0.0 h.0.1 t w, numbers-within m id es h.1 t w)

-- ---- layers that come and go
-- the layers ls of a parent stand within all layers in drawing order, with these before and behind them
pub record StandAmong (m : MapParts) (parent : Option ℕ) (ls : List Layer) : Type 0 where
  pub groups : ℕ
  pub tier : ℕ
  pub prefix : List (ℕ × Layer)
  pub rest : List (ℕ × Layer)
  pub was : all_drawn m.layers ≡ prefix ++ (drawn groups tier ls ++ rest)
  pub now : (f : List Layer → List Layer) → all_drawn (with_siblings parent f m).layers ≡ prefix ++ (drawn groups tier (f ls) ++ rest)

-- a group has room for layers in it
has_groups : (groups tier deep : ℕ) (size : ℕ) (b : Body) (ls : List Layer) → group_in b ≡ Some ls → IsBody tier size b → tier + 2 * groups ≡ deepest_tier
    → (r : ℕ) × (groups ≡ suc r)
has_groups zero tier deep size (Group' s r) ls g h d = absurd (omega (arith, h, d))
has_groups zero tier deep size b ls g h d = cc
has_groups (suc groups) tier deep size b ls g h d = (groups, refl)

pub siblings-StandAmong : (m : MapParts) (parent : Option ℕ) (ls : List Layer) → siblings_of m parent ≡ Some ls → IsWellFormed m → StandAmong m parent ls
siblings-StandAmong m None ls e h =
    let is : m.layers ≡ ls = cc in
    record {
      groups = MAX_GROUPS;
      tier = layer_tier;
      prefix = [];
      rest = [];
      was = ap all_drawn is ∙ sym (append-nil (drawn MAX_GROUPS layer_tier ls));
      now = λ f. ap (λ ks. all_drawn (f ks)) is ∙ sym (append-nil (drawn MAX_GROUPS layer_tier (f ls)));
    }
siblings-StandAmong m (Some id) ls e h = by_layer (layer_of m id) refl e
  where
    by_groups : (l : Layer) (found : layer_of m id ≡ Some l) → group_of l ≡ Some ls → (groups tier : ℕ) (prefix rest : List (ℕ × Layer))
        → all_drawn m.layers ≡ prefix ++ (tree groups tier l ++ rest)
        → ((f : Layer → Layer) → all_drawn (change_among id MAX_GROUPS f m.layers) ≡ prefix ++ (tree groups tier (f l) ++ rest)) → (r : ℕ) × (groups ≡ suc r)
        → StandAmong m (Some id) ls
    by_groups l found g groups tier prefix rest was now more = record {
      groups = more.0;
      tier = inner_tier tier;
      prefix = prefix ++ ((tier, bare l) ∷ []);
      rest = rest;
      was = was ∙ pieces l (ap or_empty g) refl;
      now = λ f. now (layer_with_layers f) ∙ pieces (layer_with_layers f l) (ap or_empty (group_of-with f l ls g)) (bare-with f l);
    }
      where
        pieces : (k : Layer) {ks : List Layer} → inside k ≡ ks → bare k ≡ bare l
            → prefix ++ (tree groups tier k ++ rest) ≡ (prefix ++ ((tier, bare l) ∷ [])) ++ (drawn more.0 (inner_tier tier) ks ++ rest)
        pieces k are same =
            ap (λ n. prefix ++ (tree n tier k ++ rest)) more.1 ∙ ap (λ t. prefix ++ (t ++ rest)) (tree-is (suc more.0) tier k)
            ∙ (λ i. prefix ++ (((tier, same i) ∷ drawn more.0 (inner_tier tier) (are i)) ++ rest))
            ∙ sym (append_assoc prefix ((tier, bare l) ∷ []) _)

    by_layer : (o : Option Layer) → layer_of m id ≡ o → option_and_then group_of o ≡ Some ls → StandAmong m (Some id) ls
    by_layer None found g = cc
    by_layer (Some l) found g =
        let s = layer-Stands m id l found in
        let body = (layer_of-IsLayer m id l found h).body in
        let here : IsBody s.own_tier (m.width * m.height) l.body = rw (← tier_of-found m id l found) body in
        by_groups l found g s.own_groups s.own_tier s.prefix s.rest s.was s.now (has_groups s.own_groups s.own_tier 0
        (m.width * m.height) l.body ls g here (s.deep))

module _ (m : MapParts) (parent : Option ℕ) (ls : List Layer) (e : siblings_of m parent ≡ Some ls) (h : IsWellFormed m) where
  siblings-IsWellFormed : (f : List Layer → List Layer) → AreLayers (m.width * m.height) m.next_layer_id m.next_object_id (with_siblings parent f m).layers
      → IsWellFormed (with_siblings parent f m)
  siblings-IsWellFormed f are = by_parent parent are
    where
      by_parent : (p : Option ℕ) → AreLayers (m.width * m.height) m.next_layer_id m.next_object_id (with_siblings p f m).layers
          → IsWellFormed (with_siblings p f m)
      by_parent None k = layers-IsWellFormed m (f m.layers) k h
      by_parent (Some id) k = layers-IsWellFormed m (change_among id MAX_GROUPS (layer_with_layers f) m.layers) k h

  -- the map without one of the layers of a parent
  pub removed-keeps : (k : ℕ) → IsWellFormed (with_siblings parent (λ ks. remove ks k) m)
  removed-keeps k =
      let s = siblings-StandAmong m parent ls e h in
      siblings-IsWellFormed (λ ks. remove ks k)
      (AreDrawn-taken (IsReplaced-as s.was (s.now (λ ks. remove ks k))
      (IsReplaced-within s.prefix s.rest (flat-IsReplaced (tree s.groups s.tier) (remove-IsReplaced ls k)))) h.layers)

  -- the map with one of the layers of a parent at another place among them
  pub moved-keeps : (from to : ℕ) (l : Layer) → slice_get ls from ≡ Some l → IsWellFormed (with_siblings parent (λ ks. insert (remove ks from) to l) m)
  moved-keeps from to l there =
      let s = siblings-StandAmong m parent ls e h in
      let gone = IsReplaced-as s.was (s.now (λ ks. remove ks from))
      (IsReplaced-within s.prefix s.rest (flat-IsReplaced (tree s.groups s.tier) (rw (take-one ls from l there) at (remove-IsReplaced ls from)))) in
      let back = IsReplaced-as (s.now (λ ks. remove ks from)) (s.now (λ ks. insert (remove ks from) to l))
      (IsReplaced-within s.prefix s.rest (flat-IsReplaced (tree s.groups s.tier) (insert-IsReplaced (remove ls from) to l))) in
      siblings-IsWellFormed (λ ks. insert (remove ks from) to l) (AreDrawn-moved gone back h.layers)

pub remove-keeps : (m : MapParts) (place : LayerPlace) → IsSome (layer_at m place) → IsWellFormed m → IsWellFormed (without_layer_at place m)
remove-keeps m place there h = by_siblings (siblings_of m place.parent) refl there
  where
    by_siblings : (o : Option (List Layer)) → siblings_of m place.parent ≡ o → IsSome (option_and_then (λ ls. slice_get ls place.at) o)
        → IsWellFormed (without_layer_at place m)
    by_siblings None e q = cc
    by_siblings (Some ls) e q = removed-keeps m place.parent ls e h place.at

-- ---- the next ids
pub Each-IsId-raised : (next raised : ℕ) (ids : List ℕ) → next ≤ raised → Each (IsId next) ids → Each (IsId raised) ids
Each-IsId-raised next raised [] l h = tt
Each-IsId-raised next raised (id ∷ ids) l h = (record { low = h.0.low; high = omega (arith, h.0.high, l) }, Each-IsId-raised next raised ids l h.1)

pub Each-apart : (next : ℕ) (ids : List ℕ) → Each (IsId next) ids → Each (λ id. next ≢ id) ids
Each-apart next [] h = tt
Each-apart next (id ∷ ids) h = (λ e. omega (arith, h.0.high, e), Each-apart next ids h.1)

-- the next layer id one higher
pub raised-keeps : (m : MapParts) → m.next_layer_id < MAX_NEXT_ID → IsWellFormed m → IsWellFormed (with_next_ids (m.next_layer_id + 1) m.next_object_id m)
raised-keeps m l h = record {
  size = h.size;
  tile_size = h.tile_size;
  layers = record {
    few = h.layers.few;
    each = h.layers.each;
    layer_ids = record {
      next_low = omega arith;
      next_high = omega arith;
      each = Each-IsId-raised m.next_layer_id (m.next_layer_id + 1) (flat_map ids_of (all_drawn m.layers)) (omega arith) h.layers.layer_ids.each;
      distinct = h.layers.layer_ids.distinct;
    };
    object_ids = h.layers.object_ids;
  };
  tilesets = h.tilesets;
  properties = h.properties;
  kept = h.kept;
}

-- a layer in which none stands
pub tree-alone : (groups tier : ℕ) (l : Layer) → inside l ≡ [] → tree groups tier l ≡ (tier, bare l) ∷ []
tree-alone zero tier l none = tree-is zero tier l
tree-alone (suc groups) tier l none = tree-is (suc groups) tier l ∙ ap (λ ks. (tier, bare l) ∷ drawn groups (inner_tier tier) ks) none

-- a layer without objects and layers, with the next id, put in at a place in no group
pub numbered-keeps : (m : MapParts) (k : ℕ) (l : Layer) → length (all_drawn m.layers) < MAX_LAYERS → m.next_layer_id < MAX_NEXT_ID
    → IsLayer layer_tier (m.width * m.height) l
    → l.id ≡ m.next_layer_id → object_ids_in l.body ≡ [] → inside l ≡ [] → IsWellFormed m
    → IsWellFormed (record (with_next_ids (m.next_layer_id + 1) m.next_object_id m) { layers = insert m.layers k l })
numbered-keeps m k l few below layer id none alone h =
    let raised = raised-keeps m below h in
    let own : drawn MAX_GROUPS layer_tier (l ∷ []) ≡ (layer_tier, bare l) ∷ [] = append-nil (tree MAX_GROUPS layer_tier l)
    ∙ tree-alone MAX_GROUPS layer_tier l alone in
    let r = rw own at (flat-IsReplaced (tree MAX_GROUPS layer_tier) (insert-IsReplaced m.layers k l)) in
    let was : flat_map ids_of (drawn MAX_GROUPS layer_tier (take k m.layers) ++ drawn MAX_GROUPS layer_tier (drop k m.layers))
    ≡ flat_map ids_of (all_drawn m.layers) = ap (flat_map ids_of) (sym r.was) in
    layers-IsWellFormed (with_next_ids (m.next_layer_id + 1) m.next_object_id m) (insert m.layers k l)
    (AreDrawn-replaced r raised.layers (omega (arith, few)) (IsLayer-with (λ ls. []) layer_tier (m.width * m.height) l layer, tt)
    (rw (← flat_map-append ids_of (drawn MAX_GROUPS layer_tier (take k m.layers)) (drawn MAX_GROUPS layer_tier (drop k m.layers)), was, id) (record {
      each = (record { low = h.layers.layer_ids.next_low; high = omega arith }, tt);
      distinct = (tt, tt);
      apart = (Each-apart m.next_layer_id (flat_map ids_of (all_drawn m.layers)) h.layers.layer_ids.each, tt);
    }))
    (rw (object_ids-with (λ ls. []) l.body, none) (AreNewIds-none m.next_object_id _))) raised

-- ---- what stays with other layers
-- the selection lies in the map with other layers too
pub with_siblings-IsSelectionOf : (parent : Option ℕ) (f : List Layer → List Layer) (m : MapParts) (selection : set.FinSet cell_cmp) → IsSelectionOf m selection
    → IsSelectionOf (with_siblings parent f m) selection
with_siblings-IsSelectionOf None f m selection h = h
with_siblings-IsSelectionOf (Some id) f m selection h = h

-- no more layers stand among siblings than in the map
length-drawn_le : (groups tier : ℕ) (ls : List Layer) → length ls ≤ length (drawn groups tier ls)
length-drawn_le groups tier [] = omega arith
length-drawn_le groups tier (l ∷ ls) =
    let later = length-drawn_le groups tier ls in
    let own = ap length (tree-is groups tier l) in
    omega (arith, later, own, length-append (tree groups tier l) (drawn groups tier ls))

pub siblings_of-few : (m : MapParts) (parent : Option ℕ) (ls : List Layer) → siblings_of m parent ≡ Some ls → IsWellFormed m → length ls ≤ MAX_LAYERS
siblings_of-few m parent ls e h =
    let s = siblings-StandAmong m parent ls e h in
    let long = ap length s.was in
    let own = length-drawn_le s.groups s.tier ls in
    omega (arith, h.layers.few, long, own, length-append s.prefix (drawn s.groups s.tier ls ++ s.rest), length-append (drawn s.groups s.tier ls) s.rest)

pub siblings_of-groups : (m : MapParts) (place : LayerPlace) → IsSomeAnd (siblings_of m place.parent) (λ ls. place.at ≤ length ls) → IsWellFormed m
    → IsSomeAnd (siblings_of m place.parent) (λ ls. length ls + 1 < 2 ^ 63)
siblings_of-groups m place there h = by_siblings (siblings_of m place.parent) refl there
  where
    by_siblings : (o : Option (List Layer)) → siblings_of m place.parent ≡ o → IsSomeAnd o (λ ls. place.at ≤ length ls)
        → IsSomeAnd o (λ ls. length ls + 1 < 2 ^ 63)
    by_siblings None e q = q
    by_siblings (Some ls) e q = let few = siblings_of-few m place.parent ls e h in omega (arith, few)
