-- A layer that is put into a map, with all that stand in it, keeps it well formed.
use Rattle.std.proofs.Common.{◌≡◌, ℕ, ◌+◌, ◌*◌, ◌≤◌, List, [], ◌∷◌, ◌++◌, append-nil, take, drop, length, true, Option, Some, None, refl, sym, ap, ◌∙◌}
use Rattle.std.proofs.Common.{subst, arith}
use Rattle.std.specs.List.{flat_map, insert}
use Rattle.map_model.specs.declared.limits.TheConstants.{MAX_GROUPS, MAX_LAYERS, MAX_NEXT_ID}
use Rattle.map_model.specs.declared.next_ids.NextIds.{NextIds}
use Rattle.map_model.specs.declared.parts.Layer.{Layer}
use Rattle.map_model.specs.declared.parts.MapParts.{MapParts}
use Rattle.map_model.specs.declared.place.LayerPlace.{LayerPlace}
use Rattle.map_model.specs.Groups.{all_drawn, tree}
use Rattle.map_model.specs.Keeping.{layer_tier}
use Rattle.map_model.specs.Layers.{siblings_of, with_layer_at, with_next_ids, with_siblings}
use Rattle.map_model.specs.Lists.{Each}
use Rattle.map_model.specs.Moving.{layer_fits, tier_in}
use Rattle.map_model.specs.NewLayers.{IsNewLayer, own_count, own_layer_ids, own_object_ids}
use Rattle.map_model.specs.WellFormed.{IsDrawn, IsId, IsWellFormed, ids_of, layer_ids, object_ids, object_ids_in, object_ids_of}
use Rattle.map_model.proofs.Keeps.{AreDrawn-replaced, Each-IsId-raised, IsReplaced-within}
use Rattle.map_model.proofs.Listings.{AreNewIds, Apart-pieces, Distinct-prefix, IsReplaced, flat-IsReplaced, insert-IsReplaced}
use Rattle.map_model.proofs.MovedLayers.{with_siblings-IsWellFormed}
use Rattle.map_model.proofs.OtherTiers.{drawn-at, read-at, whole}
use Rattle.map_model.proofs.Parents.{stand_within}
use Rattle.map_model.proofs.Trees.{length-tree}

-- ---- put in at a place
-- a layer that may stand there, with new ids
pub layer_put-keeps : (m : MapParts) (to : LayerPlace) (l : Layer) (ls : List Layer) → siblings_of m to.parent ≡ Some ls
    → Each (IsDrawn (m.width * m.height)) (tree MAX_GROUPS (tier_in m to.parent) l)
    → length (all_drawn m.layers) + own_count l ≤ MAX_LAYERS → AreNewIds m.next_layer_id (own_layer_ids l) (layer_ids m.layers)
    → AreNewIds m.next_object_id (own_object_ids l) (object_ids m.layers) → IsWellFormed m → IsWellFormed (with_layer_at to l m)
layer_put-keeps m to l ls e there few ids objects h =
    let size = m.width * m.height in
    let tier = tier_in m to.parent in
    let q = stand_within m to.parent ls e h in
    let all : tree MAX_GROUPS tier l ≡ tree q.groups tier l = whole size q.groups MAX_GROUPS MAX_GROUPS tier l q.few q.few q.deep there in
    let each : Each (IsDrawn size) (tree q.groups tier l) = rw (← all) there in
    let r = IsReplaced-within q.prefix q.rest (flat-IsReplaced (tree q.groups tier) (insert-IsReplaced ls to.at l)) in
    let put : IsReplaced (q.prefix ++ flat_map (tree q.groups tier) (take to.at ls)) [] (tree q.groups tier l ++ [])
    (flat_map (tree q.groups tier) (drop to.at ls) ++ q.rest) (all_drawn m.layers) (all_drawn (with_layer_at to l m).layers) =
    record { was = q.was ∙ r.was; now = q.now (λ ks. insert ks to.at l) ∙ r.now } in
    let same : tree q.groups tier l ++ [] ≡ tree MAX_GROUPS tier l = append-nil (tree q.groups tier l) ∙ sym all in
    let alone : tree MAX_GROUPS layer_tier l ≡ all_drawn (l ∷ []) = sym (append-nil (tree MAX_GROUPS layer_tier l)) in
    let new_ids : flat_map ids_of (tree q.groups tier l ++ []) ≡ own_layer_ids l =
    ap (flat_map ids_of) same ∙ read-at (λ x. x.id ∷ []) MAX_GROUPS tier layer_tier l ∙ ap (flat_map ids_of) alone in
    let new_objects : flat_map object_ids_of (tree q.groups tier l ++ []) ≡ own_object_ids l =
    ap (flat_map object_ids_of) same ∙ read-at (λ x. object_ids_in x.body) MAX_GROUPS tier layer_tier l ∙ ap (flat_map object_ids_of) alone in
    with_siblings-IsWellFormed to.parent (λ ks. insert ks to.at l) m
    (AreDrawn-replaced put h.layers
    (omega (arith, few, ap length same ∙ length-tree MAX_GROUPS tier layer_tier l ∙ ap length alone))
    (rw (append-nil (tree q.groups tier l)) each)
    (rw (new_ids, sym (flat-IsReplaced ids_of put).was) ids)
    (rw (new_objects, sym (flat-IsReplaced object_ids_of put).was) objects)) h

-- ---- higher next ids
raised-IsWellFormed : (m : MapParts) (raised : NextIds) → m.next_layer_id ≤ raised.layer → raised.layer ≤ MAX_NEXT_ID → m.next_object_id ≤ raised.object
    → raised.object ≤ MAX_NEXT_ID → IsWellFormed m → IsWellFormed (with_next_ids raised.layer raised.object m)
raised-IsWellFormed m raised above below objects_above objects_below h = record {
  size = h.size;
  tile_size = h.tile_size;
  layers = record {
    few = h.layers.few;
    each = h.layers.each;
    layer_ids = record {
      next_low = omega (arith, above, h.layers.layer_ids.next_low);
      next_high = below;
      each = Each-IsId-raised m.next_layer_id raised.layer (layer_ids m.layers) above h.layers.layer_ids.each;
      distinct = h.layers.layer_ids.distinct;
    };
    object_ids = record {
      next_low = omega (arith, objects_above, h.layers.object_ids.next_low);
      next_high = objects_below;
      each = Each-IsId-raised m.next_object_id raised.object (object_ids m.layers) objects_above h.layers.object_ids.each;
      distinct = h.layers.object_ids.distinct;
    };
  };
  tilesets = h.tilesets;
  properties = h.properties;
  kept = h.kept;
}

module _ (layer object : ℕ) (m : MapParts) where
  siblings_of-raised : (p : Option ℕ) → siblings_of (with_next_ids layer object m) p ≡ siblings_of m p
  siblings_of-raised None = refl
  siblings_of-raised (Some id) = refl

  tier_in-raised : (p : Option ℕ) → tier_in (with_next_ids layer object m) p ≡ tier_in m p
  tier_in-raised None = refl
  tier_in-raised (Some id) = refl

  pub with_siblings-raised : (p : Option ℕ) (f : List Layer → List Layer)
      → with_siblings p f (with_next_ids layer object m) ≡ with_next_ids layer object (with_siblings p f m)
  with_siblings-raised None f = refl
  with_siblings-raised (Some id) f = refl

-- a layer that fits there, with next ids above its own
pub given_layer-keeps : (m : MapParts) (to : LayerPlace) (l : Layer) (ls : List Layer) (raised : NextIds) → siblings_of m to.parent ≡ Some ls
    → layer_fits (tier_in m to.parent) l ≡ true → length (all_drawn m.layers) + own_count l ≤ MAX_LAYERS → IsNewLayer m l
    → m.next_layer_id ≤ raised.layer → raised.layer ≤ MAX_NEXT_ID → m.next_object_id ≤ raised.object → raised.object ≤ MAX_NEXT_ID
    → Each (IsId raised.layer) (own_layer_ids l) → Each (IsId raised.object) (own_object_ids l) → IsWellFormed m
    → IsWellFormed (with_next_ids raised.layer raised.object (with_layer_at to l m))
given_layer-keeps m to l ls raised e fits few new above below objects_above objects_below ids objects h =
    let n = with_next_ids raised.layer raised.object m in
    let tier : tier_in n to.parent ≡ tier_in m to.parent = tier_in-raised raised.layer raised.object m to.parent in
    let own : Each (IsDrawn (m.width * m.height)) (tree MAX_GROUPS layer_tier l) =
    subst (Each (IsDrawn (m.width * m.height))) (append-nil (tree MAX_GROUPS layer_tier l)) new.alone.each in
    let there = drawn-at (m.width * m.height) MAX_GROUPS layer_tier (tier_in m to.parent) l own fits in
    subst IsWellFormed (with_siblings-raised raised.layer raised.object m to.parent (λ ks. insert ks to.at l))
    (layer_put-keeps n to l ls (siblings_of-raised raised.layer raised.object m to.parent ∙ e)
    (subst (λ k. Each (IsDrawn (m.width * m.height)) (tree MAX_GROUPS k l)) (sym tier) there) few
    (record {
      each = ids;
      distinct = Distinct-prefix (own_layer_ids l) (layer_ids m.layers) new.layers_apart;
      apart = Apart-pieces (own_layer_ids l) (layer_ids m.layers) new.layers_apart;
    })
    (record {
      each = objects;
      distinct = Distinct-prefix (own_object_ids l) (object_ids m.layers) new.objects_apart;
      apart = Apart-pieces (own_object_ids l) (object_ids m.layers) new.objects_apart;
    })
    (raised-IsWellFormed m raised above below objects_above objects_below h))
