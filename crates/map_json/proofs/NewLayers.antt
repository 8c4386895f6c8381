-- What a line says of a layer is one that the map can get.
use Rattle.std.proofs.Common.{◌≡◌, ℕ, ◌+◌, ◌*◌, ◌≤◌, [], ◌∷◌, ◌++◌, length, true, false, ◌&&◌, Result, Ok, Err, subst, arith}
use Rattle.std.specs.Prelude.{◌==◌, IfOk}
use Rattle.std.specs.List.{flat_map, list_all}
use Rattle.std.proofs.lemmas.Bool.{and_parts}
use Rattle.serde_json.specs.Data.{Data, depth}
use Rattle.serde_json.specs.Written.{has_float}
use Rattle.map_model.specs.declared.limits.TheConstants.{MAX_GROUPS, MAX_LAYERS, MAX_NEXT_ID}
use Rattle.map_model.specs.declared.parts.Body.{Body}
use Rattle.map_model.specs.declared.parts.Body.TheVariants.{Objects}
use Rattle.map_model.specs.declared.parts.Layer.{Layer}
use Rattle.map_model.specs.declared.parts.MapParts.{MapParts}
use Rattle.map_model.specs.Groups.{all_drawn}
use Rattle.map_model.specs.Keeping.{object_tier}
use Rattle.map_model.specs.Lists.{Each}
use Rattle.map_model.specs.NewLayers.{IsNewLayer, own_layer_ids, own_object_ids}
use Rattle.map_model.specs.Readable.{IsReadable}
use Rattle.map_model.specs.WellFormed.{IsId, ids_of, ids_of_object, layer_ids, object_ids, object_ids_in, object_ids_of}
use Rattle.map_model.proofs.Listings.{Distinct-prefix}
use Rattle.refusals.specs.declared.map_refusal.MapRefusal.TheVariants.{IdUsedTwice}
use Rattle.map_values.specs.Presence.{GivesBy}
use Rattle.map_values.specs.declared.fault.MapFault.{MapFault}
use Rattle.map_json.specs.declared.given.GivenLayer.{GivenLayer}
use Rattle.map_json.specs.Distinctness.{are_distinct, are_named_apart, lists_of_drawn}
use Rattle.map_json.specs.Given.{is_new_layer, new_layer_at}
use Rattle.map_json.specs.Reading.{layer_by, layers_at, lone_layer_at}
use Rattle.map_json.specs.declared.body.NoData.TheVariants.{Empty}
use Rattle.map_json.specs.declared.word.TheConstants.{MAX_WORD_DEPTH}
use Rattle.map_json.proofs.Apart.{Distinct-numbers, Each-flat_map}
use Rattle.map_json.proofs.FineLemmas.{IsFine-read}
use Rattle.map_json.proofs.Fittings.{Each-IsDrawn}
use Rattle.map_json.proofs.Layers.{WasReadBody, WasReadDrawn, lone_sound}
use Rattle.map_json.proofs.Owners.{WasReadObject}
use Rattle.map_json.proofs.Sound.{by_bind, by_check, ok_is}

-- ---- the layer by itself
ids_in : (tier size : ℕ) (b : Body) → WasReadBody tier size b → Each (IsId MAX_NEXT_ID) (object_ids_in b)
ids_in tier size (Objects os) h =
    Each-flat_map (IsId MAX_NEXT_ID) (WasReadObject (object_tier tier)) ids_of_object (λ o g. (record { low = g.low; high = g.high }, tt)) os h.1
ids_in tier size b h = tt

was_new : (m : MapParts) (l : Layer) → length (all_drawn (l ∷ [])) ≤ MAX_LAYERS → Each (WasReadDrawn (m.width * m.height)) (all_drawn (l ∷ []))
    → is_new_layer m l ≡ true → IsNewLayer m l
was_new m l few was e =
    let size = m.width * m.height in
    let layers_apart = are_distinct (λ a b. a == b) (own_layer_ids l ++ layer_ids m.layers) in
    let objects_apart = are_distinct (λ a b. a == b) (own_object_ids l ++ object_ids m.layers) in
    let a = and_parts (layers_apart && objects_apart) (list_all are_named_apart (flat_map lists_of_drawn (all_drawn (l ∷ [])))) e in
    let b = and_parts layers_apart objects_apart a.0 in
    let layers = Distinct-numbers (own_layer_ids l ++ layer_ids m.layers) b.0 in
    let objects = Distinct-numbers (own_object_ids l ++ object_ids m.layers) b.1 in
    record {
      alone = record {
        few = few;
        each = Each-IsDrawn size (all_drawn (l ∷ [])) was a.1;
        layer_ids = record {
          next_low = omega arith;
          next_high = omega arith;
          each = Each-flat_map (IsId MAX_NEXT_ID) (WasReadDrawn size) ids_of (λ x g. (record { low = g.low; high = g.high }, tt)) (all_drawn (l ∷ [])) was;
          distinct = Distinct-prefix (own_layer_ids l) (layer_ids m.layers) layers;
        };
        object_ids = record {
          next_low = omega arith;
          next_high = omega arith;
          each = Each-flat_map (IsId MAX_NEXT_ID) (WasReadDrawn size) object_ids_of (λ x g. ids_in x.0 size x.1.body g.body) (all_drawn (l ∷ [])) was;
          distinct = Distinct-prefix (own_object_ids l) (object_ids m.layers) objects;
        };
      };
      layers_apart = layers;
      objects_apart = objects;
    }

-- ---- as a line says it
pub layer_given : (m : MapParts) (d : Data) (l : Layer) (r : Result GivenLayer MapFault) → IsReadable d → has_float d ≡ false
    → depth d ≤ MAX_WORD_DEPTH + 3
    → lone_layer_at m.width m.height d ≡ Ok l → GivesBy (λ given. given.layer) r (new_layer_at m l) → IfOk r (λ given. IsNewLayer m given.layer)
layer_given m d l (Err fault) readable whole shallow e f = tt
layer_given m d l (Ok given) readable whole shallow e f =
    let k = given.layer in
    by_bind (layer_by Empty (layers_at Empty MAX_GROUPS m.width m.height) m.width m.height 1 d) _ l e (λ r is e1.
    by_check (is_new_layer m l) IdUsedTwice _ k f (λ new f1.
    let fine = IsFine-read 125 d readable whole (omega (arith, shallow)) in
    let was = lone_sound Empty m.width m.height d r fine is in
    let same = ok_is r.1 l e1 in
    let read = subst (λ x. (length (all_drawn (x ∷ [])) ≤ MAX_LAYERS) × Each (WasReadDrawn (m.width * m.height)) (all_drawn (x ∷ []))) same was in
    subst (IsNewLayer m) (ok_is l k f1) (was_new m l read.0 read.1 new)))
