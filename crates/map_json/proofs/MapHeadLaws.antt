-- A map is well formed with a head that was read from the members of its own, with some put in or taken out.
use Rattle.std.proofs.Common.{◌≡◌, ℕ, ◌+◌, ◌-◌, ◌≤◌, List, [], ◌∷◌, bytes_eq, true, false, Some, None, refl, sym, subst, ap, ◌∙◌, arith}
use Rattle.std.specs.Prelude.{Ok, nat_lt}
use Rattle.std.specs.List.{list_all, list_any}
use Rattle.std.proofs.lemmas.Bool.{and_parts}
use Rattle.serde_json.specs.Data.{Members}
use Rattle.serde_json.specs.Find.{get_member}
use Rattle.map_model.specs.declared.heads.MapHead.{MapHead}
use Rattle.map_model.specs.declared.limits.TheConstants.{MAX_DEPTH, MAX_NEXT_ID, MAX_TILE_SIDE}
use Rattle.map_model.specs.declared.names.TheConstants.{WIDTH, HEIGHT, TILE_WIDTH, TILE_HEIGHT, INFINITE, NEXT_LAYER_ID, NEXT_OBJECT_ID, LAYERS, TILESETS}
use Rattle.map_model.specs.declared.names.TheConstants.{PROPERTIES, TYPE, VERSION}
use Rattle.map_model.specs.declared.parts.MapParts.{MapParts}
use Rattle.map_model.specs.Document.{DocumentParts}
use Rattle.map_model.specs.Format.{map_names}
use Rattle.map_model.specs.Heads.{head_of_map, map_head, map_with_head}
use Rattle.map_model.specs.Keeping.{map_tier}
use Rattle.map_model.specs.Lens.{put}
use Rattle.map_model.specs.Lists.{Each}
use Rattle.map_model.specs.WellFormed.{IsWellFormed, layer_ids, object_ids}
use Rattle.map_model.proofs.LensLaws.{some-eq}
use Rattle.json_members.specs.Members.{put_all, without, without_all}
use Rattle.fractions.specs.declared.lines.Fractions.{Fractions}
use Rattle.fractions.specs.declared.lines.Moved.{Moved}
use Rattle.fractions.specs.declared.place.Place.TheVariants as places
use Rattle.fractions.specs.Lines.{members_said, put_words, remove_word}
use Rattle.map_values.specs.Presence.{required}
use Rattle.map_values.specs.Scalars.{whole_at}
use Rattle.map_json.specs.Distinctness.{are_below_next}
use Rattle.map_json.specs.MapHeads.{IsMapHead, is_map_member, map_head_at, map_head_members, map_head_names, map_head_own, map_head_said}
use Rattle.map_json.specs.Words.{AreWords, all_named}
use Rattle.refusals.specs.declared.map_refusal.MapRefusal.TheVariants.{OverLimit}
use Rattle.map_json.proofs.Apart.{Each-IsId-next}
use Rattle.map_json.proofs.Fine.{AreFineMembers}
use Rattle.map_json.proofs.HeadWords.{AreFlat, put_all_lacks_each, rest_fine, with_own_lacks_each, without_lacks_each, words_fine}
use Rattle.map_json.proofs.Lacking.{LacksAll, LacksAll-without_all, absent_from_all}
use Rattle.map_json.proofs.Noting.{all_named-elsewhere, put_words-elsewhere, remove_word-elsewhere}
use Rattle.map_json.proofs.Own.{names}
use Rattle.map_json.proofs.Sound.{by_bind, by_check, kept_sound, ok_is, required_whole_sound}
use Rattle.map_json.proofs.WrittenTrees.{AreReadableOwn, number_below}

-- ---- names that a head's members lack
-- the names of a map, but those of its head
abbrev other_names : List (List ℕ)
other_names = WIDTH.now ∷ HEIGHT.now ∷ INFINITE.now ∷ LAYERS.now ∷ TILESETS.now ∷ PROPERTIES.now ∷ TYPE.now ∷ VERSION.now ∷ []

others-fixed : Each (λ q. is_map_member q ≡ false) other_names
others-fixed = (refl, (refl, (refl, (refl, (refl, (refl, (refl, (refl, tt))))))))

others-apart : (h : MapHead) → Each (λ q. list_any (bytes_eq q) (names (map_head_own h)) ≡ false) other_names
others-apart h = (refl, (refl, (refl, (refl, (refl, (refl, (refl, (refl, tt))))))))

others_kept : (ms : Members) → LacksAll map_names ms → LacksAll other_names ms
others_kept ms (width, (height, (tile_width, (tile_height, (infinite, (next_layer, (next_object, (layers, (tilesets, (properties, (kind, (version, end)))))))))))) =
    (width, (height, (infinite, (layers, (tilesets, (properties, (kind, (version, end))))))))

all_names : (ms : Members) → LacksAll other_names ms → LacksAll map_names (without_all map_head_names ms)
all_names ms (width, (height, (infinite, (layers, (tilesets, (properties, (kind, (version, end)))))))) =
    let own = LacksAll-without_all map_head_names ms in
    let stays : (q : List ℕ) → get_member q ms ≡ None → get_member q (without_all map_head_names ms) ≡ None = λ q h. absent_from_all q map_head_names ms h in (
      stays WIDTH.now width,
      (
        stays HEIGHT.now height,
        (
          own.0,
          (
            own.1.0,
            (
              stays INFINITE.now infinite,
              (
                own.1.1.0,
                (
                  own.1.1.1.0,
                  (
                    stays LAYERS.now layers,
                    (
                      stays TILESETS.now tilesets,
                      (stays PROPERTIES.now properties, (stays TYPE.now kind, (stays VERSION.now version, end))),
                    ),
                  ),
                ),
              ),
            ),
          ),
        ),
      ),
    )

-- ---- the members of a head
own_readable : (h : MapHead) → IsMapHead h → AreReadableOwn (map_head_own h)
own_readable h is =
    let tile_width = number_below h.tile_width MAX_TILE_SIDE is.tile_size.width_limit (omega arith) in
    let tile_height = number_below h.tile_height MAX_TILE_SIDE is.tile_size.height_limit (omega arith) in
    let next_layer = number_below h.next_layer_id MAX_NEXT_ID is.layer_high (omega arith) in
    let next_object = number_below h.next_object_id MAX_NEXT_ID is.object_high (omega arith) in
    (refl, tile_width, (refl, tile_height, (refl, next_layer, (refl, next_object, tt))))

own_flat : (h : MapHead) → AreFlat (map_head_own h)
own_flat h = ((refl, refl), ((refl, refl), ((refl, refl), ((refl, refl), tt))))

-- ---- what members say
map_head_sound : (n : ℕ) → map_tier + n ≤ MAX_DEPTH → (ms : Members) (h : MapHead) → AreFineMembers n ms → LacksAll other_names ms
    → map_head_said ms ≡ Ok h → IsMapHead h
unfolding map_head_said
map_head_sound n room ms h fine lacks e =
    by_bind (required (whole_at 1 MAX_TILE_SIDE) (get_member TILE_WIDTH.now ms)) _ h e (λ tile_width width_is e1.
    by_bind (required (whole_at 1 MAX_TILE_SIDE) (get_member TILE_HEIGHT.now ms)) _ h e1 (λ tile_height height_is e2.
    by_bind (required (whole_at 1 MAX_NEXT_ID) (get_member NEXT_LAYER_ID.now ms)) _ h e2 (λ next_layer layer_is e3.
    by_bind (required (whole_at 1 MAX_NEXT_ID) (get_member NEXT_OBJECT_ID.now ms)) _ h e3 (λ next_object object_is e4.
    let width = required_whole_sound 1 MAX_TILE_SIDE (get_member TILE_WIDTH.now ms) tile_width width_is in
    let height = required_whole_sound 1 MAX_TILE_SIDE (get_member TILE_HEIGHT.now ms) tile_height height_is in
    let layer = required_whole_sound 1 MAX_NEXT_ID (get_member NEXT_LAYER_ID.now ms) next_layer layer_is in
    let object = required_whole_sound 1 MAX_NEXT_ID (get_member NEXT_OBJECT_ID.now ms) next_object object_is in
    let kept = kept_sound map_tier n map_head_names ms room fine in
    let read : MapHead = record {
      tile_width = tile_width;
      tile_height = tile_height;
      next_layer_id = next_layer;
      next_object_id = next_object;
      kept = without_all map_head_names ms;
    } in
    let made : IsMapHead read = record {
      tile_size = record { wide = width.0; high = height.0; width_limit = width.1; height_limit = height.1 };
      layer_low = layer.0;
      layer_high = layer.1;
      object_low = object.0;
      object_high = object.1;
      kept = record { unread = all_names ms lacks; whole = kept.whole; shallow = kept.shallow; readable = kept.readable };
    } in
    subst IsMapHead (ok_is read h e4) made))))

-- ---- maps
map_head_is : (m : MapParts) → IsWellFormed m → IsMapHead (map_head m)
map_head_is m h = record {
  tile_size = h.tile_size;
  layer_low = h.layers.layer_ids.next_low;
  layer_high = h.layers.layer_ids.next_high;
  object_low = h.layers.object_ids.next_low;
  object_high = h.layers.object_ids.next_high;
  kept = h.kept;
}

-- a map with a head that its ids allow
with_head : (m : MapParts) (new : MapHead) → IsWellFormed m → IsMapHead new → are_below_next (map_with_head new m) ≡ true
    → IsWellFormed (map_with_head new m)
with_head m new h is below =
    let both = and_parts (list_all (λ id. nat_lt id new.next_layer_id) (layer_ids m.layers)) (list_all (λ id. nat_lt id new.next_object_id) (object_ids m.layers))
    below in
    record {
      size = h.size;
      tile_size = is.tile_size;
      layers = record {
        few = h.layers.few;
        each = h.layers.each;
        layer_ids = record {
          next_low = is.layer_low;
          next_high = is.layer_high;
          each = Each-IsId-next m.next_layer_id new.next_layer_id (layer_ids m.layers) h.layers.layer_ids.each both.0;
          distinct = h.layers.layer_ids.distinct;
        };
        object_ids = record {
          next_low = is.object_low;
          next_high = is.object_high;
          each = Each-IsId-next m.next_object_id new.next_object_id (object_ids m.layers) h.layers.object_ids.each both.1;
          distinct = h.layers.object_ids.distinct;
        };
      };
      tilesets = h.tilesets;
      properties = h.properties;
      kept = is.kept;
    }

-- a head that was read of members that lack the names of other lines
read-well_formed : (n : ℕ) → map_tier + n ≤ MAX_DEPTH → (m : MapParts) (ms : Members) (new : MapHead) → IsWellFormed m → AreFineMembers n ms
    → LacksAll other_names ms → map_head_at m ms ≡ Ok new → IsWellFormed (map_with_head new m)
unfolding map_head_at
read-well_formed n room m ms new h fine lacks e =
    by_bind (map_head_said ms) _ new e (λ said said_is e1.
    by_check (are_below_next (map_with_head said m)) OverLimit _ new e1 (λ below e2.
    let is = map_head_sound n room ms said fine lacks said_is in
    subst (λ x. IsWellFormed (map_with_head x m)) (ok_is said new e2) (with_head m said h is below)))

-- ---- heads that were read
own_lacks : (m : MapParts) → IsWellFormed m → LacksAll other_names (map_head_members (map_head m))
own_lacks m h = with_own_lacks_each (map_head_own (map_head m)) other_names (others-apart (map_head m)) m.kept (others_kept m.kept h.kept.unread)

pub map_put-well_formed : (f : Fractions) (m : Moved) (words : Members) (own new : MapHead) (d : DocumentParts) → IsWellFormed d.map → head_of_map.get d ≡ Some own
    → AreWords (members_said f places.Elsewhere m words) → all_named is_map_member words ≡ true
    → map_head_at d.map (put_words f places.Elsewhere m words (map_head_members own)) ≡ Ok new → IsWellFormed (put head_of_map new d).map
map_put-well_formed f m words own new d h given are named e =
    let is : map_head d.map ≡ own = some-eq (map_head d.map) own given in
    let head = map_head d.map in
    let said = members_said f places.Elsewhere m words in
    let read = ap (map_head_at d.map) (sym (put_words-elsewhere f m words (map_head_members head)))
    ∙ (ap (λ x. map_head_at d.map (put_words f places.Elsewhere m words (map_head_members x))) is ∙ e) in
    let fine = words_fine (map_head_own head) head.kept h.kept (own_readable head (map_head_is d.map h)) (own_flat head) said (omega arith) are in
    read-well_formed (MAX_DEPTH - map_tier) (omega arith) d.map (put_all said (map_head_members head)) new h fine
    (put_all_lacks_each is_map_member other_names others-fixed said (map_head_members head) (all_named-elsewhere is_map_member f m words ∙ named)
    (own_lacks d.map h)) read

pub map_without-well_formed : (f : Fractions) (name : List ℕ) (own new : MapHead) (d : DocumentParts) → IsWellFormed d.map → head_of_map.get d ≡ Some own
    → map_head_at d.map (remove_word f places.Elsewhere name (map_head_members own)) ≡ Ok new → IsWellFormed (put head_of_map new d).map
map_without-well_formed f name own new d h given e =
    let is : map_head d.map ≡ own = some-eq (map_head d.map) own given in
    let head = map_head d.map in
    let read = ap (map_head_at d.map) (sym (remove_word-elsewhere f name (map_head_members head)))
    ∙ (ap (λ x. map_head_at d.map (remove_word f places.Elsewhere name (map_head_members x))) is ∙ e) in
    let fine = rest_fine (map_head_own head) head.kept h.kept (own_readable head (map_head_is d.map h)) (own_flat head) name in
    read-well_formed (MAX_DEPTH - map_tier) (omega arith) d.map (without name (map_head_members head)) new h fine
    (without_lacks_each other_names name (map_head_members head) (own_lacks d.map h)) read
