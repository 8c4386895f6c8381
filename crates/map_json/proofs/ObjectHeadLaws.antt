-- A head that was read from the members of another one, with some put in or taken out, is one of an object at the same tier.
use Rattle.std.proofs.Common.{◌≡◌, ℕ, suc, ◌+◌, ◌-◌, ◌≤◌, List, Bool, true, false, refl, sym, subst, arith}
use Rattle.std.specs.Prelude.{Ok}
use Rattle.serde_json.specs.Data.{Members}
use Rattle.serde_json.specs.Find.{get_member}
use Rattle.map_model.specs.declared.heads.ObjectHead.{ObjectHead}
use Rattle.map_model.specs.declared.limits.TheConstants.{MAX_DEPTH}
use Rattle.map_model.specs.declared.names.TheConstants.{NAME, VISIBLE, GID}
use Rattle.map_model.specs.Format.{object_names}
use Rattle.map_model.specs.WellFormed.{IsTileValue}
use Rattle.json_members.specs.Members.{without_all}
use Rattle.fractions.specs.declared.lines.Fractions.{Fractions}
use Rattle.fractions.specs.declared.lines.Moved.{Moved}
use Rattle.fractions.specs.declared.place.Place.TheVariants as places
use Rattle.fractions.specs.Aside.{reserved_name}
use Rattle.fractions.specs.Lines.{members_said, put_words, remove_word}
use Rattle.map_values.specs.Presence.{optional}
use Rattle.map_values.specs.Scalars.{text_at, truth_at, whole_at}
use Rattle.map_json.specs.ObjectHeads.{IsObjectHead, head_at, head_members, head_own}
use Rattle.map_json.specs.Reading.{placing_of}
use Rattle.map_json.specs.Words.{AreWords, all_named}
use Rattle.map_json.specs.declared.word.TheConstants.{MAX_WORD_DEPTH}
use Rattle.map_json.proofs.Fine.{AreFineMembers}
use Rattle.map_json.proofs.FineLemmas.{AreFineMembers-read}
use Rattle.map_json.proofs.HeadWords.{AreFlat, gid_flat, own_fine, pixels_flat, text_flat, truth_flat}
use Rattle.map_json.proofs.Noting.{fine_put_words, fine_remove_word}
use Rattle.map_json.proofs.Owners.{gid_sound, optional_sound, placing_sound}
use Rattle.map_json.proofs.Sound.{by_bind, kept_sound, ok_is, optional_text_sound}
use Rattle.map_json.proofs.WrittenTrees.{AreReadableOwn, gid_readable, pixels_readable, text_readable, truth_readable}

-- ---- the members of a head
module _ (tier : ℕ) (h : ObjectHead) (is : IsObjectHead tier h) where
  own_readable : AreReadableOwn (head_own h)
  own_readable =
      let p = h.placing in
      let q = is.placing in (
        refl,
        pixels_readable p.x q.x,
        (
          refl,
          pixels_readable p.y q.y,
          (
            refl,
            pixels_readable p.width q.width,
            (
              refl,
              pixels_readable p.height q.height,
              (refl, text_readable h.name is.name, (refl, truth_readable h.visible, (refl, gid_readable h.gid is.gid, tt))),
            ),
          ),
        ),
      )

  own_flat : AreFlat (head_own h)
  own_flat =
      let p = h.placing in
      (pixels_flat p.x, (pixels_flat p.y, (pixels_flat p.width, (pixels_flat p.height, (text_flat h.name, (truth_flat h.visible, (gid_flat h.gid, tt)))))))

-- ---- what members say
head_at_sound : (tier n : ℕ) → tier + n ≤ MAX_DEPTH → (ms : Members) (h : ObjectHead) → AreFineMembers n ms → head_at ms ≡ Ok h → IsObjectHead tier h
unfolding head_at
head_at_sound tier n room ms h fine e =
    by_bind (placing_of ms) _ h e (λ placing placing_is e1.
    by_bind (optional text_at (get_member NAME.now ms)) _ h e1 (λ name name_is e2.
    by_bind (optional truth_at (get_member VISIBLE.now ms)) _ h e2 (λ visible visible_is e3.
    by_bind (optional (whole_at 0 4294967295) (get_member GID.now ms)) _ h e3 (λ gid gid_is e4.
    let made : IsObjectHead tier (record { placing = placing; name = name; visible = visible; gid = gid; kept = without_all object_names ms }) = record {
      placing = placing_sound ms placing placing_is;
      name = optional_text_sound n NAME.now ms fine name name_is;
      gid = optional_sound IsTileValue (whole_at 0 4294967295) gid_sound (get_member GID.now ms) gid gid_is;
      kept = kept_sound tier n object_names ms room fine;
    } in
    subst (IsObjectHead tier) (ok_is (record { placing = placing; name = name; visible = visible; gid = gid; kept = without_all object_names ms }) h e4)
    made))))

-- ---- lines
-- the members of a head, at a tier where there is room for a text of a line
members_fine : (tier : ℕ) (h : ObjectHead) → IsObjectHead tier h → AreFineMembers (MAX_DEPTH - tier) (head_members h)
members_fine tier h is = own_fine (head_own h) h.kept is.kept (own_readable tier h is) (own_flat tier h is)

-- the head that its members say with others put in, where lines can say those, and none has the reserved name
pub head_put_sound : (is_own : List ℕ → Bool) → is_own reserved_name ≡ false → (tier : ℕ) (f : Fractions) (m : Moved) (words : Members) (h new : ObjectHead)
    → tier + MAX_WORD_DEPTH ≤ MAX_DEPTH → AreWords (members_said f places.Object m words) → all_named is_own words ≡ true → IsObjectHead tier h
    → head_at (put_words f places.Object m words (head_members h)) ≡ Ok new → IsObjectHead tier new
head_put_sound is_own reserved tier f m words h new room are named is e =
    let deep = are.shallow in
    let n = MAX_DEPTH - tier - 1 in
    let next : suc n ≡ MAX_DEPTH - tier = omega arith in
    let said = AreFineMembers-read (suc n) (members_said f places.Object m words) are.readable are.whole (omega arith) in
    let own = subst (λ k. AreFineMembers k (head_members h)) (sym next) (members_fine tier h is) in
    let fine = fine_put_words is_own reserved n places.Object m f words (head_members h) said named own in
    head_at_sound tier (suc n) (omega arith) (put_words f places.Object m words (head_members h)) new fine e

-- the head that its members say without one of them
pub head_drop_sound : (tier : ℕ) (f : Fractions) (name : List ℕ) (h new : ObjectHead) → tier + MAX_WORD_DEPTH ≤ MAX_DEPTH → IsObjectHead tier h
    → head_at (remove_word f places.Object name (head_members h)) ≡ Ok new → IsObjectHead tier new
head_drop_sound tier f name h new room is e =
    let n = MAX_DEPTH - tier - 1 in
    let next : suc n ≡ MAX_DEPTH - tier = omega arith in
    let own = subst (λ k. AreFineMembers k (head_members h)) (sym next) (members_fine tier h is) in
    head_at_sound tier (suc n) (omega arith) (remove_word f places.Object name (head_members h)) new
    (fine_remove_word n places.Object f name (head_members h) own) e
