-- A head that was read from the members of another one, with some put in or taken out, is one of a layer at the same tier that holds the same.
use Rattle.std.proofs.Common.{◌≡◌, ℕ, ◌+◌, ◌-◌, ◌≤◌, List, [], ◌∷◌, bytes_eq, true, false, refl, subst, arith}
use Rattle.std.specs.Prelude.{Ok}
use Rattle.std.specs.List.{list_any}
use Rattle.std.proofs.lemmas.Str.{IsUtf8-nil}
use Rattle.serde_json.specs.Data.{Members}
use Rattle.serde_json.specs.Find.{get_member}
use Rattle.map_model.specs.declared.heads.LayerHead.{LayerHead}
use Rattle.map_model.specs.declared.limits.TheConstants.{MAX_DEPTH}
use Rattle.map_model.specs.declared.names.TheConstants.{ID, NAME, TYPE, VISIBLE, PROPERTIES}
use Rattle.map_model.specs.declared.parts.Body.{Body}
use Rattle.map_model.specs.declared.parts.Body.TheVariants.{Tiles, Objects, Other, Group'}
use Rattle.map_model.specs.Format.{body_names, layer_names}
use Rattle.map_model.specs.Lists.{Each}
use Rattle.json_members.specs.Members.{put_all, without, without_all}
use Rattle.map_values.specs.Presence.{absent_means}
use Rattle.map_values.specs.Scalars.{text_at, truth_at}
use Rattle.map_json.specs.LayerHeads.{IsLayerHead, is_layer_member, layer_head_at, layer_head_members, layer_head_names, layer_head_own}
use Rattle.map_json.specs.Words.{AreWords, all_named}
use Rattle.map_json.specs.declared.word.TheConstants.{MAX_WORD_DEPTH}
use Rattle.map_json.proofs.Fine.{AreFineMembers}
use Rattle.map_json.proofs.HeadWords.{AreFlat, put_all_lacks_each, rest_fine, with_own_lacks_each, without_lacks_each, words_fine}
use Rattle.map_json.proofs.Lacking.{LacksAll, LacksAll-without_all, absent_from_all}
use Rattle.map_json.proofs.Own.{names}
use Rattle.map_json.proofs.Sound.{by_bind, kept_sound, ok_is, text_or_sound}
use Rattle.map_json.proofs.WrittenTrees.{AreReadableOwn}

-- ---- names that a head's members lack
-- the names of a layer that holds this, but those of its head
abbrev other_names : Body → List (List ℕ)
other_names body = TYPE.now ∷ ID.now ∷ PROPERTIES.now ∷ body_names body

-- no line of own members names one of them
others-fixed : (body : Body) → Each (λ q. is_layer_member q ≡ false) (other_names body)
others-fixed (Tiles e cells) = (refl, (refl, (refl, (refl, (refl, (refl, (refl, (refl, tt))))))))
others-fixed (Objects os) = (refl, (refl, (refl, (refl, tt))))
others-fixed Other = (refl, (refl, (refl, tt)))
others-fixed (Group' s r) = (refl, (refl, (refl, (refl, tt))))

-- nor is one the name of a head's own member
others-apart : (h : LayerHead) (body : Body) → Each (λ q. list_any (bytes_eq q) (names (layer_head_own h)) ≡ false) (other_names body)
others-apart h (Tiles e cells) = (refl, (refl, (refl, (refl, (refl, (refl, (refl, (refl, tt))))))))
others-apart h (Objects os) = (refl, (refl, (refl, (refl, tt))))
others-apart h Other = (refl, (refl, (refl, tt)))
others-apart h (Group' s r) = (refl, (refl, (refl, (refl, tt))))

others_kept : (body : Body) (ms : Members) → LacksAll (layer_names body) ms → LacksAll (other_names body) ms
others_kept body ms (kind, (id, (name, (visible, (properties, rest))))) = (kind, (id, (properties, rest)))

lacks_rest : (qs : List (List ℕ)) (ms : Members) → LacksAll qs ms → LacksAll qs (without_all layer_head_names ms)
lacks_rest [] ms h = tt
lacks_rest (q ∷ qs) ms h = (absent_from_all q layer_head_names ms h.0, lacks_rest qs ms h.1)

all_names : (body : Body) (ms : Members) → LacksAll (other_names body) ms → LacksAll (layer_names body) (without_all layer_head_names ms)
all_names body ms (kind, (id, (properties, rest))) =
    let own = LacksAll-without_all layer_head_names ms in (
      absent_from_all TYPE.now layer_head_names ms kind,
      (
        absent_from_all ID.now layer_head_names ms id,
        (own.0, (own.1.0, (absent_from_all PROPERTIES.now layer_head_names ms properties, lacks_rest (body_names body) ms rest))),
      ),
    )

-- ---- the members of a head
own_readable : (tier : ℕ) (body : Body) (h : LayerHead) → IsLayerHead tier body h → AreReadableOwn (layer_head_own h)
own_readable tier body h is = (refl, is.name, (refl, tt, tt))

own_flat : (h : LayerHead) → AreFlat (layer_head_own h)
own_flat h = ((refl, refl), ((refl, refl), tt))

-- ---- what members say
layer_head_sound : (tier n : ℕ) (body : Body) → tier + n ≤ MAX_DEPTH → (ms : Members) (h : LayerHead) → AreFineMembers n ms → LacksAll (other_names body) ms
    → layer_head_at ms ≡ Ok h → IsLayerHead tier body h
unfolding layer_head_at
layer_head_sound tier n body room ms h fine lacks e =
    by_bind (absent_means [] text_at (get_member NAME.now ms)) _ h e (λ name name_is e1.
    by_bind (absent_means true truth_at (get_member VISIBLE.now ms)) _ h e1 (λ visible visible_is e2.
    let kept = kept_sound tier n layer_head_names ms room fine in
    let made : IsLayerHead tier body (record { name = name; visible = visible; kept = without_all layer_head_names ms }) = record {
      name = text_or_sound n NAME.now ms fine [] name IsUtf8-nil name_is;
      kept = record { unread = all_names body ms lacks; whole = kept.whole; shallow = kept.shallow; readable = kept.readable };
    } in
    subst (IsLayerHead tier body) (ok_is (record { name = name; visible = visible; kept = without_all layer_head_names ms }) h e2) made))

-- the head that its members say with others put in, where lines can say those, none is of other lines, and there is room for them
pub layer_put_sound : (tier : ℕ) (body : Body) (words : Members) (h new : LayerHead) → tier + MAX_WORD_DEPTH ≤ MAX_DEPTH → AreWords words
    → all_named is_layer_member words ≡ true → IsLayerHead tier body h → layer_head_at (put_all words (layer_head_members h)) ≡ Ok new
    → IsLayerHead tier body new
layer_put_sound tier body words h new room are own is e =
    let there : tier + (MAX_DEPTH - tier) ≤ MAX_DEPTH = omega arith in
    let fine = words_fine (layer_head_own h) h.kept is.kept (own_readable tier body h is) (own_flat h) words room are in
    let lacks = put_all_lacks_each is_layer_member (other_names body) (others-fixed body) words (layer_head_members h) own
    (with_own_lacks_each (layer_head_own h) (other_names body) (others-apart h body) h.kept (others_kept body h.kept is.kept.unread)) in
    layer_head_sound tier (MAX_DEPTH - tier) body there (put_all words (layer_head_members h)) new fine lacks e

-- the head that its members say without one of them
pub layer_drop_sound : (tier : ℕ) (body : Body) (name : List ℕ) (h new : LayerHead) → tier + MAX_WORD_DEPTH ≤ MAX_DEPTH → IsLayerHead tier body h
    → layer_head_at (without name (layer_head_members h)) ≡ Ok new → IsLayerHead tier body new
layer_drop_sound tier body name h new room is e =
    let there : tier + (MAX_DEPTH - tier) ≤ MAX_DEPTH = omega arith in
    let fine = rest_fine (layer_head_own h) h.kept is.kept (own_readable tier body h is) (own_flat h) name in
    let lacks = without_lacks_each (other_names body) name (layer_head_members h)
    (with_own_lacks_each (layer_head_own h) (other_names body) (others-apart h body) h.kept (others_kept body h.kept is.kept.unread)) in
    layer_head_sound tier (MAX_DEPTH - tier) body there (without name (layer_head_members h)) new fine lacks e
