-- What a layer holds, read from what is left after the members of every layer were taken out.
use Rattle.std.proofs.Common.{◌≡◌, ℕ, List, [], ◌∷◌, bytes_eq, false, Bool, true, ◌||◌, Ok, refl, ap, ◌∙◌, true≢false}
use Rattle.std.specs.List.{list_any}
use Rattle.serde_json.specs.Data.{Members}
use Rattle.serde_json.specs.Find.{get_member}
use Rattle.map_model.specs.declared.names.TheConstants.{ID, X, Y, WIDTH, HEIGHT, LAYERS, CHUNKS, ENCODING, COMPRESSION, DATA, OBJECTS}
use Rattle.map_model.specs.Format.{common_names, body_names, layer_names}
use Rattle.map_model.specs.declared.parts.Body.{Body}
use Rattle.map_model.specs.declared.parts.Layer.{Layer}
use Rattle.map_model.specs.Refusing.{◌>>=◌}
use Rattle.map_json.specs.declared.body.LayerType.{LayerType}
use Rattle.map_json.specs.declared.body.LayerType.TheVariants.{TileLayer, ObjectGroup, ImageLayer, GroupLayer}
use Rattle.map_json.specs.declared.body.NoData.{NoData}
use Rattle.map_json.specs.declared.body.NoData.TheVariants.{Refused, Empty}
use Rattle.json_members.specs.Members.{without, without_all}
use Rattle.map_json.specs.Elements.{Counting}
use Rattle.map_json.specs.Reading.{tiles_of, objects_of, body_by, placing_of}
use Rattle.json_members.proofs.MembersLemmas.{get_member-without}

stays_at : (b : Bool) (q k : List ℕ) (r : Bool) (ms : Members) → bytes_eq q k ≡ b → b || r ≡ false → get_member q (without k ms) ≡ get_member q ms
stays_at true q k r ms e h = absurd (true≢false h)
stays_at false q k r ms e h = get_member-without q k ms e

rest_at : (b r : Bool) → b || r ≡ false → r ≡ false
rest_at true r h = absurd (true≢false h)
rest_at false r h = h

-- a member of another name stays
pub get_member-without_all : (q : List ℕ) (ks : List (List ℕ)) (ms : Members) → list_any (bytes_eq q) ks ≡ false
    → get_member q (without_all ks ms) ≡ get_member q ms
get_member-without_all q [] ms e = refl
get_member-without_all q (k ∷ ks) ms e =
    get_member-without_all q ks (without k ms) (rest_at (bytes_eq q k) (list_any (bytes_eq q) ks) e)
    ∙ stays_at (bytes_eq q k) q k (list_any (bytes_eq q) ks) ms refl e

tiles_of_common : (no_data : NoData) (width height : ℕ) (ms : Members)
    → tiles_of no_data width height (without_all common_names ms) ≡ tiles_of no_data width height ms
unfolding tiles_of
tiles_of_common Refused width height ms =
    let stays : (q : List ℕ) → list_any (bytes_eq q) common_names ≡ false
    → get_member q (without_all common_names ms) ≡ get_member q ms = λ q e. get_member-without_all q common_names ms e in
    rw (stays ENCODING.now refl, stays COMPRESSION.now refl, stays WIDTH.now refl, stays HEIGHT.now refl, stays DATA.now refl) refl
tiles_of_common Empty width height ms =
    let stays : (q : List ℕ) → list_any (bytes_eq q) common_names ≡ false
    → get_member q (without_all common_names ms) ≡ get_member q ms = λ q e. get_member-without_all q common_names ms e in
    rw (
      stays ENCODING.now refl,
      stays COMPRESSION.now refl,
      stays WIDTH.now refl,
      stays HEIGHT.now refl,
      stays DATA.now refl,
      stays CHUNKS.now refl,
    ) refl

pub body_by_common : (no_data : NoData) (inner : Counting (List Layer)) (kind : LayerType) (width height count : ℕ) (ms : Members)
    → body_by no_data inner kind width height count (without_all common_names ms) ≡ body_by no_data inner kind width height count ms
unfolding objects_of
body_by_common no_data inner TileLayer width height count ms = ap (λ r. r >>= λ body. Ok (count, body)) (tiles_of_common no_data width height ms)
body_by_common no_data inner ObjectGroup width height count ms = rw (get_member-without_all OBJECTS.now common_names ms refl) refl
body_by_common no_data inner ImageLayer width height count ms = refl
body_by_common no_data inner GroupLayer width height count ms = rw (get_member-without_all LAYERS.now common_names ms refl) refl

pub without_layer_names : (b : Body) (ms : Members) → without_all (layer_names b) ms ≡ without_all (body_names b) (without_all common_names ms)
without_layer_names b ms = refl

pub ruleset common = (body_by_common, without_layer_names)

-- where an object stands does not depend on its id
pub placing_of-without_id : (ms : Members) → placing_of (without ID.now ms) ≡ placing_of ms
unfolding placing_of
placing_of-without_id ms =
    rw (
      get_member-without X.now ID.now ms refl,
      get_member-without Y.now ID.now ms refl,
      get_member-without WIDTH.now ID.now ms refl,
      get_member-without HEIGHT.now ID.now ms refl,
    ) refl

pub ruleset placings = (placing_of-without_id, get_member-without)
