-- What a text of a line says as a whole thing is one that a map can hold, wherever it is put.
use Rattle.std.proofs.Common.{◌≡◌, ℕ, suc, ◌≤◌, Bool, true, false, refl, arith}
use Rattle.std.specs.Prelude.{Result, Ok, Err, IfOk, is_some, if◌then◌else◌}
use Rattle.json.proofs.Printed.Utf8.{IsUtf8-are_ascii}
use Rattle.serde_json.specs.Data.{Members, object, put}
use Rattle.serde_json.specs.Find.{get_member}
use Rattle.map_model.specs.declared.limits.TheConstants.{MAX_NEXT_ID}
use Rattle.map_model.specs.declared.names.TheConstants.{ID}
use Rattle.map_model.specs.declared.parts.Object.{Object}
use Rattle.map_model.specs.declared.parts.Property.{Property}
use Rattle.map_model.specs.declared.parts.Tileset.{Tileset}
use Rattle.map_model.specs.Keeping.{deepest_tier, object_tier, property_tier}
use Rattle.map_model.specs.WellFormed.{IsId, IsObject, IsProperty, IsTileset}
use Rattle.map_values.specs.Arrays.{whole_tree}
use Rattle.map_values.specs.Presence.{Gives}
use Rattle.map_values.specs.declared.fault.MapFault.{MapFault}
use Rattle.map_json.specs.Distinctness.{are_named_apart}
use Rattle.map_json.specs.Given.{with_id}
use Rattle.map_json.specs.Reading.{object_at, property_at, tileset_at}
use Rattle.map_json.specs.Words.{AreWords}
use Rattle.map_json.specs.declared.word.TheConstants.{MAX_WORD_DEPTH}
use Rattle.map_json.proofs.Fine.{AreFineMembers}
use Rattle.map_json.proofs.FineLemmas.{AreFineMembers-read}
use Rattle.map_json.proofs.Fittings.{IsObject-read}
use Rattle.map_json.proofs.HeadWords.{members_depth-put}
use Rattle.map_json.proofs.Orders.{AreReadableMembers-put}
use Rattle.map_json.proofs.Own.{put_whole}
use Rattle.map_json.proofs.Owners.{WasReadObject, object_sound, tileset_sound}
use Rattle.map_json.proofs.Sound.{property_sound}
use Rattle.map_json.proofs.WrittenTrees.{number_below}

-- ---- members
-- those that a line says are fine, as deep as it may nest and deeper
words-fine : (n : ℕ) → MAX_WORD_DEPTH ≤ n → (ms : Members) → AreWords ms → AreFineMembers n ms
words-fine n room ms are = let s = are.shallow in AreFineMembers-read n ms are.readable are.whole (omega arith)

-- with an id too
with_id-at : (says : Bool) (ms : Members) → AreWords ms → AreWords (if says then ms else put ID.now (whole_tree 1) ms)
with_id-at true ms are = are
with_id-at false ms are = record {
  readable = AreReadableMembers-put ID.now (whole_tree 1) ms (IsUtf8-are_ascii ID.now refl) (number_below 1 1 (omega arith) (omega arith)) are.readable;
  whole = put_whole ID.now (whole_tree 1) ms refl are.whole;
  shallow = let deep = members_depth-put ID.now (whole_tree 1) ms in let s = are.shallow in omega arith;
}

with_id-words : (ms : Members) → AreWords ms → AreWords (with_id ms)
with_id-words ms are = with_id-at (is_some (get_member ID.now ms)) ms are

-- ---- what they say
object_was_read : (tier : ℕ) → tier ≤ deepest_tier → (ms : Members) (o : Object) → AreWords ms → object_at (object (with_id ms)) ≡ Ok o
    → WasReadObject (object_tier tier) o
object_was_read tier room ms o are e =
    let fine = words-fine (suc (suc MAX_WORD_DEPTH)) (omega arith) (with_id ms) (with_id-words ms are) in
    object_sound (object_tier tier) MAX_WORD_DEPTH (omega arith) (object (with_id ms)) o fine e

pub object_given : (tier : ℕ) → tier ≤ deepest_tier → (ms : Members) (o : Object) → AreWords ms → object_at (object (with_id ms)) ≡ Ok o
    → are_named_apart o.properties ≡ true → IsObject (object_tier tier) o
object_given tier room ms o are e apart = IsObject-read (object_tier tier) o (object_was_read tier room ms o are e) apart

pub id_given : (ms : Members) (o : Object) → AreWords ms → object_at (object (with_id ms)) ≡ Ok o → IsId MAX_NEXT_ID o.id
id_given ms o are e = let was = object_was_read deepest_tier (omega arith) ms o are e in record { low = was.low; high = was.high }

pub property_given : (tier : ℕ) → tier ≤ object_tier deepest_tier → (ms : Members) (r : Result Property MapFault) → AreWords ms
    → Gives r (property_at (object ms)) → IfOk r (IsProperty (property_tier tier))
property_given tier room ms (Ok p) are e =
    property_sound (property_tier tier) MAX_WORD_DEPTH (omega arith) (object ms) p (words-fine MAX_WORD_DEPTH (omega arith) ms are) e
property_given tier room ms (Err f) are e = tt

pub tileset_given : (ms : Members) (r : Result Tileset MapFault) → AreWords ms → Gives r (tileset_at (object ms)) → IfOk r IsTileset
tileset_given ms (Ok t) are e = tileset_sound MAX_WORD_DEPTH (omega arith) (object ms) t (words-fine MAX_WORD_DEPTH (omega arith) ms are) e
tileset_given ms (Err f) are e = tt
