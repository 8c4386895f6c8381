-- The laws of the lens of a tileset's own member, and its value in the map that holds it.
use Rattle.std.proofs.Common.{◌≡◌, ℕ, List, [], ◌∷◌, Option, Some, None, IsSome, option_and_then, refl, sym, ap, ◌∙◌, subst}
use Rattle.std.proofs.Common.{String, Global, Ordering, Less, Equal, Greater, string_bytes, nat_cmp, is_eq, cond}
use Rattle.std.specs.BTreeMap.{is_at}
use Rattle.std.specs.Cmp.Lexicographic.{slice_cmp}
use Rattle.std.specs.Map.{set_value}
use Rattle.std.specs.Ordering.{match_ordering}
use Rattle.serde_json.specs.Data.{Data, Members, no_members, member}
use Rattle.serde_json.specs.Find.{get_member}
use Rattle.serde_json.specs.View.{view, members_view}
use Rattle.serde_json.specs.declared.value.Value.{Value}
use Rattle.serde_json.proofs.Views.{Entry}
use Rattle.map_model.specs.declared.heads.TilesetHead.{TilesetHead}
use Rattle.map_model.specs.declared.parts.Tileset.{Tileset}
use Rattle.map_model.specs.Document.{DocumentParts}
use Rattle.map_model.specs.Heads.{kept_of_tileset, tileset_head, tileset_head_with_id, tileset_value, tileset_with_head, value_named, with_member}
use Rattle.map_model.specs.Lens.{IsLawfulLens, inner, put}
use Rattle.map_model.specs.Tilesets.{has_first_id, tileset_with}
use Rattle.map_model.proofs.FirstChanges.{change_first-along, change_first-change_first}
use Rattle.map_model.proofs.LensLaws.{inner-laws, of_tileset-laws, some-eq, whole-laws}

module _ (k : List ℕ) (f : Data → Data) where
  get-with_at : (o : Ordering) (l : List ℕ) (d v : Data) (ms : Members) → slice_cmp nat_cmp k l ≡ o
      → match_ordering o (get_member k ms) (Some d) (get_member k ms) ≡ Some v → (get_member k ms ≡ Some v → get_member k (with_member k f ms) ≡ Some (f v))
      → get_member k (match_ordering o (member l d (with_member k f ms)) (member l (f d) ms) (member l d (with_member k f ms))) ≡ Some (f v)
  get-with_at Less l d v ms is e later = rw is (later e)
  get-with_at Equal l d v ms is e later = rw is (ap (λ x. Some (f x)) (some-eq d v e))
  get-with_at Greater l d v ms is e later = rw is (later e)

  get-with : (v : Data) (ms : Members) → get_member k ms ≡ Some v → get_member k (with_member k f ms) ≡ Some (f v)
  get-with v no_members e = cc
  get-with v (member l d ms) e = get-with_at (slice_cmp nat_cmp k l) l d v ms refl e (get-with v ms)

  same_at : (o : Ordering) (l : List ℕ) (d v : Data) (ms : Members) → f v ≡ v → match_ordering o (get_member k ms) (Some d) (get_member k ms) ≡ Some v
      → (get_member k ms ≡ Some v → with_member k f ms ≡ ms)
      → match_ordering o (member l d (with_member k f ms)) (member l (f d) ms) (member l d (with_member k f ms)) ≡ member l d ms
  same_at Less l d v ms q e later = ap (member l d) (later e)
  same_at Equal l d v ms q e later = let own = some-eq d v e in ap (λ x. member l x ms) (ap f own ∙ q ∙ sym own)
  same_at Greater l d v ms q e later = ap (member l d) (later e)

  with-same : (v : Data) (ms : Members) → get_member k ms ≡ Some v → f v ≡ v → with_member k f ms ≡ ms
  with-same v no_members e q = refl
  with-same v (member l d ms) e q = same_at (slice_cmp nat_cmp k l) l d v ms q e (λ h. with-same v ms h q)

  with_with_at : (g : Data → Data) (o : Ordering) (l : List ℕ) (d : Data) (ms : Members) → slice_cmp nat_cmp k l ≡ o
      → with_member k f (with_member k g ms) ≡ with_member k (λ v. f (g v)) ms
      → with_member k f (match_ordering o (member l d (with_member k g ms)) (member l (g d) ms) (member l d (with_member k g ms)))
      ≡ match_ordering o (member l d (with_member k (λ v. f (g v)) ms)) (member l (f (g d)) ms) (member l d (with_member k (λ v. f (g v)) ms))
  with_with_at g Less l d ms is later = rw is (ap (member l d) later)
  with_with_at g Equal l d ms is later = rw is refl
  with_with_at g Greater l d ms is later = rw is (ap (member l d) later)

  with-with : (g : Data → Data) (ms : Members) → with_member k f (with_member k g ms) ≡ with_member k (λ v. f (g v)) ms
  with-with g no_members = refl
  with-with g (member l d ms) = with_with_at g (slice_cmp nat_cmp k l) l d ms refl (with-with g ms)

pub value_named-laws : (name : List ℕ) → IsLawfulLens (value_named name)
value_named-laws name = record {
  get-update = λ f v ms e. get-with name f v ms e;
  update-same = λ f v ms e q. with-same name f v ms e q;
  update-update = λ f g ms. with-with name f g ms;
}

pub tileset_value-laws : (first_id : ℕ) (name : List ℕ) → IsLawfulLens (tileset_value first_id name)
tileset_value-laws first_id name =
    of_tileset-laws first_id (inner kept_of_tileset (value_named name)) (λ f t. refl)
    (inner-laws kept_of_tileset (value_named name) (whole-laws (λ t. t.kept) (λ kept t. record t { kept = kept }) (λ v t. refl) (λ t. refl) (λ v w t. refl))
    (value_named-laws name))

-- ---- a value that was found
pub some-then : {A V : Type 0} (f : A → Option V) (o : Option A) → IsSome (option_and_then f o) → IsSome o
some-then f None h = cc
some-then f (Some a) h = refl

-- ---- a member's value, and the head that it is of
pub head-there : (first_id : ℕ) (name : List ℕ) (d : DocumentParts) → IsSome ((tileset_value first_id name).get d)
    → IsSome ((tileset_head_with_id first_id).get d)
head-there first_id name d some = by_tileset (tileset_with d.map first_id) some
  where
    by_tileset : (o : Option Tileset) → IsSome (option_and_then (λ t. get_member name t.kept) o) → IsSome (option_and_then (λ t. Some (tileset_head t)) o)
    by_tileset None h = cc
    by_tileset (Some t) h = refl

-- a head that is put in leaves nothing of a value that was put in before
pub head-over_value : (first_id : ℕ) (name : List ℕ) (v : Data) (h : TilesetHead) (d : DocumentParts)
    → put (tileset_head_with_id first_id) h (put (tileset_value first_id name) v d) ≡ put (tileset_head_with_id first_id) h d
head-over_value first_id name v h d =
    ap (λ ts. record d { map = record d.map { tilesets = ts } })
    (change_first-change_first (has_first_id first_id) (tileset_with_head h) (λ t. record t { kept = with_member name (λ own. v) t.kept }) (λ t. refl)
    d.map.tilesets)

-- a head that differs from the tileset's own in the value of one member is put in by that value
pub value-is_head : (first_id : ℕ) (name : List ℕ) (t : Tileset) (h : TilesetHead) (own v : Data) (d : DocumentParts)
    → tileset_with d.map first_id ≡ Some t → get_member name h.kept ≡ Some v → tileset_head t ≡ record h { kept = with_member name (λ x. own) h.kept }
    → put (tileset_value first_id name) v d ≡ put (tileset_head_with_id first_id) h d
value-is_head first_id name t h own v d there has is =
    ap (λ ts. record d { map = record d.map { tilesets = ts } })
    (change_first-along (has_first_id first_id) (λ s. record s { kept = with_member name (λ x. v) s.kept }) (tileset_with_head h) d.map.tilesets
    (λ s q. let same : t ≡ s = some-eq t s (sym there ∙ q) in
    subst (λ s. record s { kept = with_member name (λ x. v) s.kept } ≡ tileset_with_head h s) same on_own))
  where
    laws : IsLawfulLens (value_named name)
    laws = value_named-laws name

    on_own : record t { kept = with_member name (λ x. v) t.kept } ≡ tileset_with_head h t
    on_own =
        ap (λ (k : TilesetHead). tileset_with_head (record k { kept = with_member name (λ x. v) k.kept }) t) is
        ∙ ap (λ ms. tileset_with_head (record h { kept = ms }) t)
        (laws.update-update (λ x. v) (λ x. own) h.kept ∙ laws.update-same (λ x. v) v h.kept has refl)

-- ---- the map that holds the members
set_at : (o : Ordering) (e : Entry) (w : Value) (es rest : List Entry) (name : List ℕ) → members_view rest ≡ with_member name (λ own. view w) (members_view es)
    → members_view (cond (is_eq o) ((e.0, w) ∷ es) (e ∷ rest))
    ≡ match_ordering o (member (string_bytes e.0) (view e.1) (with_member name (λ own. view w) (members_view es)))
    (member (string_bytes e.0) (view w) (members_view es))
    (member (string_bytes e.0) (view e.1) (with_member name (λ own. view w) (members_view es)))
set_at Less e w es rest name later = ap (member (string_bytes e.0) (view e.1)) later
set_at Equal e w es rest name later = refl
set_at Greater e w es rest name later = ap (member (string_bytes e.0) (view e.1)) later

-- a value that is written where a name is found
pub members_view-set_value : (name : List ℕ) (w : Value) (es : List Entry)
    → members_view (set_value (is_at (λ k. slice_cmp nat_cmp name (string_bytes k))) es w) ≡ with_member name (λ own. view w) (members_view es)
members_view-set_value name w [] = refl
members_view-set_value name w (e ∷ es) = set_at (slice_cmp nat_cmp name (string_bytes e.0)) e w es _ name (members_view-set_value name w es)
