-- What was read is well formed: tilesets, objects and layers, but for what must differ over the whole map.
use Rattle.std.proofs.Common.{◌≡◌, IsUtf8, ℕ, suc, ◌+◌, ◌-◌, ◌<◌, ◌≤◌, ℤ, true, ◌&&◌, Option, Some, None, Result, Ok, subst, arith}
use Rattle.std.proofs.lemmas.Bool.{and_parts}
use Rattle.std.proofs.lemmas.Float.{T_from_true}
use Rattle.std.specs.Prelude.{int_le, neg_ℤ, ◌≤ℤ◌, IfSome}
use Rattle.std.specs.Int.Signed.{le_z_yes}
use Rattle.std.specs.Option.{ok_or}
use Rattle.serde_json.specs.Data.{Data, Members}
use Rattle.serde_json.specs.Find.{get_member, as_object, as_number, as_i64}
use Rattle.map_model.specs.declared.names.TheConstants.{ID, NAME, VISIBLE, WIDTH, HEIGHT, X, Y, GID, FIRST_ID, SOURCE}
use Rattle.map_model.specs.declared.limits.TheConstants.{MAX_DEPTH, MAX_NEXT_ID, MAX_PIXELS, MAX_FIRST_ID}
use Rattle.map_model.specs.declared.parts.Placing.{Placing}
use Rattle.map_model.specs.declared.parts.Object.{Object}
use Rattle.map_model.specs.declared.parts.Tileset.{Tileset}
use Rattle.map_model.specs.Keeping.{AreKept, tileset_tier, property_tier}
use Rattle.map_model.specs.Format.{object_names, tileset_names}
use Rattle.map_model.specs.WellFormed.{IsPlacing, IsPixels, IsTileValue, IsTileset}
use Rattle.json_members.specs.Members.{without_all}
use Rattle.refusals.specs.declared.map_refusal.MapRefusal.{MapRefusal}
use Rattle.refusals.specs.declared.map_refusal.MapRefusal.TheVariants.{MemberOfAnotherKind, OverLimit}
use Rattle.map_values.specs.Presence.{required, optional}
use Rattle.map_values.specs.Scalars.{whole_at, signed_at, text_at, truth_at, id_at, pixels_at}
use Rattle.map_json.specs.Reading.{placing_of, object_at, properties_of, tileset_at}
use Rattle.map_json.proofs.Fine.{IsFine}
use Rattle.map_json.proofs.Sound.{by_bind, ok_is, chosen, ok_or_ok, object_fine, kept_sound, required_whole_sound, whole_sound, optional_text_sound, WereRead}
use Rattle.map_json.proofs.Sound.{properties_sound}

-- ---- tilesets
pub tileset_sound : (n : ℕ) → tileset_tier + n ≤ MAX_DEPTH → (d : Data) (t : Tileset) → IsFine (suc n) d → tileset_at d ≡ Ok t → IsTileset t
unfolding tileset_at
tileset_sound n room d t fine e =
    by_bind (ok_or (as_object d) MemberOfAnotherKind) _ t e (λ ms object e1.
    by_bind (required (whole_at 1 MAX_FIRST_ID) (get_member FIRST_ID.now ms)) _ t e1 (λ first_id first_id_is e2.
    by_bind (optional text_at (get_member SOURCE.now ms)) _ t e2 (λ source source_is e3.
    let members = object_fine n d ms fine (ok_or_ok (as_object d) MemberOfAnotherKind ms object) in
    let range = required_whole_sound 1 MAX_FIRST_ID (get_member FIRST_ID.now ms) first_id first_id_is in
    let made : IsTileset (record { first_id = first_id; source = source; kept = without_all tileset_names ms }) = record {
      low = range.0;
      high = range.1;
      source = optional_text_sound n SOURCE.now ms members source source_is;
      kept = kept_sound tileset_tier n tileset_names ms room members;
    } in
    subst IsTileset (ok_is (record { first_id = first_id; source = source; kept = without_all tileset_names ms }) t e3) made)))

-- ---- objects
-- an object that was read, at this tier; whether its properties' names differ is told apart
pub record WasReadObject (tier : ℕ) (o : Object) : Type 0 where
  pub low : 1 ≤ o.id
  pub high : o.id < MAX_NEXT_ID
  pub placing : IsPlacing o.placing
  pub name : IfSome o.name IsUtf8
  pub gid : IfSome o.gid IsTileValue
  pub properties : WereRead tier o.properties
  pub kept : AreKept tier object_names o.kept

pub optional_sound : {A : Type 0} (P : A → Type 0) (read : Data → Result A MapRefusal) → ((d : Data) (x : A) → read d ≡ Ok x → P x)
    → (o : Option Data) (x : Option A) → optional read o ≡ Ok x → IfSome x P
optional_sound P read sound None x e = subst (λ y. IfSome y P) (ok_is None x e) tt
optional_sound P read sound (Some d) x e = by_bind (read d) _ x e (λ y y_is e1. subst (λ z. IfSome z P) (ok_is (Some y) x e1) (sound d y y_is))

int_le-true : (a b : ℤ) → int_le a b ≡ true → a ≤ℤ b
int_le-true a b e = le_z_yes (T_from_true (int_le a b) e)

pub signed_sound : (low high : ℤ) (d : Data) (z : ℤ) → signed_at low high d ≡ Ok z → (low ≤ℤ z) × (z ≤ℤ high)
unfolding signed_at
signed_sound low high d z e =
    by_bind (ok_or (as_number d) MemberOfAnotherKind) _ z e (λ x x_is e1.
    by_bind (ok_or (as_i64 x) OverLimit) _ z e1 (λ k k_is e2.
    let c = chosen (int_le low k && int_le k high) (Ok k) OverLimit z e2 in
    let b = and_parts (int_le low k) (int_le k high) c.0 in
    subst (λ (m : ℤ). (low ≤ℤ m) × (m ≤ℤ high)) (ok_is k z c.1) (int_le-true low k b.0, int_le-true k high b.1)))

pixels_sound : (d : Data) (z : ℤ) → pixels_at d ≡ Ok z → IsPixels z
pixels_sound d z e = let s = signed_sound (neg_ℤ MAX_PIXELS) MAX_PIXELS d z e in record { low = s.0; high = s.1 }

pub placing_sound : (ms : Members) (p : Placing) → placing_of ms ≡ Ok p → IsPlacing p
unfolding placing_of
placing_sound ms p e =
    by_bind (optional pixels_at (get_member X.now ms)) _ p e (λ x x_is e1.
    by_bind (optional pixels_at (get_member Y.now ms)) _ p e1 (λ y y_is e2.
    by_bind (optional pixels_at (get_member WIDTH.now ms)) _ p e2 (λ width width_is e3.
    by_bind (optional pixels_at (get_member HEIGHT.now ms)) _ p e3 (λ height height_is e4.
    let made : IsPlacing (record { x = x; y = y; width = width; height = height }) = record {
      x = optional_sound IsPixels pixels_at pixels_sound (get_member X.now ms) x x_is;
      y = optional_sound IsPixels pixels_at pixels_sound (get_member Y.now ms) y y_is;
      width = optional_sound IsPixels pixels_at pixels_sound (get_member WIDTH.now ms) width width_is;
      height = optional_sound IsPixels pixels_at pixels_sound (get_member HEIGHT.now ms) height height_is;
    } in
    subst IsPlacing (ok_is (record { x = x; y = y; width = width; height = height }) p e4) made))))

pub gid_sound : (d : Data) (n : ℕ) → whole_at 0 4294967295 d ≡ Ok n → IsTileValue n
gid_sound d n e = let s = whole_sound 0 4294967295 d n e in let high : n ≤ 4294967295 = s.1 in omega arith

pub object_sound : (tier n : ℕ) → property_tier tier + n ≤ MAX_DEPTH → (d : Data) (o : Object) → IsFine (suc (suc (suc n))) d → object_at d ≡ Ok o
    → WasReadObject tier o
unfolding object_at
object_sound tier n room d o fine e =
    by_bind (ok_or (as_object d) MemberOfAnotherKind) _ o e (λ ms object e1.
    by_bind (required id_at (get_member ID.now ms)) _ o e1 (λ id id_is e2.
    by_bind (placing_of ms) _ o e2 (λ placing placing_is e3.
    by_bind (optional text_at (get_member NAME.now ms)) _ o e3 (λ name name_is e4.
    by_bind (optional truth_at (get_member VISIBLE.now ms)) _ o e4 (λ visible visible_is e5.
    by_bind (optional (whole_at 0 4294967295) (get_member GID.now ms)) _ o e5 (λ gid gid_is e6.
    by_bind (properties_of ms) _ o e6 (λ properties properties_is e7.
    let members = object_fine (suc (suc n)) d ms fine (ok_or_ok (as_object d) MemberOfAnotherKind ms object) in
    let range = required_whole_sound 1 (MAX_NEXT_ID - 1) (get_member ID.now ms) id id_is in
    let made : WasReadObject tier (record
    { id = id; placing = placing; name = name; visible = visible; gid = gid; properties = properties; kept = without_all object_names ms }) = record {
      low = range.0;
      high = let high : id ≤ MAX_NEXT_ID - 1 = range.1 in omega arith;
      placing = placing_sound ms placing placing_is;
      name = optional_text_sound (suc (suc n)) NAME.now ms members name name_is;
      gid = optional_sound IsTileValue (whole_at 0 4294967295) gid_sound (get_member GID.now ms) gid gid_is;
      properties = properties_sound tier n room ms properties members properties_is;
      kept = kept_sound tier (suc (suc n)) object_names ms (omega arith) members;
    } in
    subst (WasReadObject tier) (ok_is
    (record { id = id; placing = placing; name = name; visible = visible; gid = gid; properties = properties; kept = without_all object_names ms }) o e7)
    made)))))))
