-- The head of a layer with an id, in a document: the map is well formed with a head that was read from its members.
use Rattle.std.proofs.Common.{◌≡◌, ℕ, List, ◌+◌, ◌≤◌, Option, Some, None, option_and_then, true, Ok, refl, sym, ap, ◌∙◌, arith}
use Rattle.serde_json.specs.Data.{Members}
use Rattle.map_model.specs.declared.heads.LayerHead.{LayerHead}
use Rattle.map_model.specs.declared.limits.TheConstants.{MAX_DEPTH}
use Rattle.map_model.specs.declared.parts.Layer.{Layer}
use Rattle.map_model.specs.Document.{DocumentParts}
use Rattle.map_model.specs.Heads.{layer_head, layer_head_with_id, layer_with_head}
use Rattle.map_model.specs.Lens.{put}
use Rattle.map_model.specs.Lookups.{layer_of}
use Rattle.map_model.specs.Properties.{tier_of}
use Rattle.map_model.specs.WellFormed.{IsWellFormed}
use Rattle.map_model.proofs.Keeps.{changed-keeps, layer-Stands, layer_of-IsLayer, object_ids-IsReplaced, tier_of-found}
use Rattle.map_model.proofs.LensLaws.{some-eq}
use Rattle.fractions.specs.declared.lines.Fractions.{Fractions}
use Rattle.fractions.specs.declared.lines.Moved.{Moved}
use Rattle.fractions.specs.declared.place.Place.TheVariants as places
use Rattle.fractions.specs.Lines.{members_said, put_words, remove_word}
use Rattle.map_json.specs.declared.word.TheConstants.{MAX_WORD_DEPTH}
use Rattle.map_json.specs.LayerHeads.{IsLayerHead, is_layer_member, layer_head_at, layer_head_members}
use Rattle.map_json.specs.Words.{AreWords, all_named}
use Rattle.map_json.proofs.LayerHeadLaws.{layer_drop_sound, layer_put_sound}
use Rattle.map_json.proofs.Noting.{all_named-elsewhere, put_words-elsewhere, remove_word-elsewhere}

-- a document whose layer has a head
pub record HasLayerHead (id : ℕ) (d : DocumentParts) (h : LayerHead) : Type 0 where
  pub layer : Layer
  pub at : layer_of d.map id ≡ Some layer
  pub is : layer_head layer ≡ h

pub has_layer_head : (id : ℕ) (d : DocumentParts) (h : LayerHead) → (layer_head_with_id id).get d ≡ Some h → HasLayerHead id d h
has_layer_head id d h e = by_layer (layer_of d.map id) refl e
  where
    by_layer : (o : Option Layer) → layer_of d.map id ≡ o → option_and_then (λ l. Some (layer_head l)) o ≡ Some h → HasLayerHead id d h
    by_layer None at q = absurd cc
    by_layer (Some l) at q = record { layer = l; at = at; is = some-eq (layer_head l) h q }

-- a text of a line fits there
words_fit : (id : ℕ) (d : DocumentParts) (l : Layer) → layer_of d.map id ≡ Some l → tier_of d.map id + MAX_WORD_DEPTH ≤ MAX_DEPTH
words_fit id d l e = let deep = (layer-Stands d.map id l e).deep in rw (tier_of-found d.map id l e) (omega arith)

-- the map is well formed with a head that its layer may have
with_head : (id : ℕ) (d : DocumentParts) (own new : LayerHead) → IsWellFormed d.map → (has : HasLayerHead id d own)
    → (IsLayerHead (tier_of d.map id) has.layer.body own → IsLayerHead (tier_of d.map id) has.layer.body new)
    → IsWellFormed (put (layer_head_with_id id) new d).map
with_head id d own new h has sound =
    let l = has.layer in
    let tier = tier_of d.map id in
    let old = layer_of-IsLayer d.map id l has.at h in
    let was : IsLayerHead tier l.body own = rw (← has.is) (record { name = old.name; kept = old.kept }) in
    let fresh = sound was in
    let r = object_ids-IsReplaced id (layer_with_head new) l d.map has.at refl in
    changed-keeps id (layer_with_head new) l d.map has.at refl refl
    (record { name = fresh.name; properties = old.properties; kept = fresh.kept; body = old.body })
    (rw (r.1.1.now ∙ sym r.1.1.was) h.layers.object_ids) h

-- ---- heads that were read
pub layer_put-well_formed : (id : ℕ) (f : Fractions) (m : Moved) (words : Members) (own new : LayerHead) (d : DocumentParts) → IsWellFormed d.map
    → (layer_head_with_id id).get d ≡ Some own → AreWords (members_said f places.Elsewhere m words) → all_named is_layer_member words ≡ true
    → layer_head_at (put_words f places.Elsewhere m words (layer_head_members own)) ≡ Ok new → IsWellFormed (put (layer_head_with_id id) new d).map
layer_put-well_formed id f m words own new d h given are named e =
    let has = has_layer_head id d own given in
    let said = members_said f places.Elsewhere m words in
    let read = ap layer_head_at (sym (put_words-elsewhere f m words (layer_head_members own))) ∙ e in
    with_head id d own new h has (λ is. layer_put_sound (tier_of d.map id) has.layer.body said own new (words_fit id d has.layer has.at) are
    (all_named-elsewhere is_layer_member f m words ∙ named) is read)

pub layer_without-well_formed : (id : ℕ) (f : Fractions) (name : List ℕ) (own new : LayerHead) (d : DocumentParts) → IsWellFormed d.map
    → (layer_head_with_id id).get d ≡ Some own → layer_head_at (remove_word f places.Elsewhere name (layer_head_members own)) ≡ Ok new
    → IsWellFormed (put (layer_head_with_id id) new d).map
layer_without-well_formed id f name own new d h given e =
    let has = has_layer_head id d own given in
    let read = ap layer_head_at (sym (remove_word-elsewhere f name (layer_head_members own))) ∙ e in
    with_head id d own new h has (λ is. layer_drop_sound (tier_of d.map id) has.layer.body name own new (words_fit id d has.layer has.at) is read)
