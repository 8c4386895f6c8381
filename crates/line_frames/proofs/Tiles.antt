-- What stands in a document in which the cells of a layer take what an edit puts over them.
use Rattle.std.proofs.Common.{◌≡◌, ℕ, List, [], nat_eq, ◌&&◌, Bool, true, false, cond, is_some, Option, Some, None, option_map, refl, sym, ap, ◌∙◌, subst, arith}
use Rattle.std.proofs.lemmas.Bool.Decides.{nat_tests}
use Rattle.std.specs.FinSet as set
use Rattle.region.specs.Cells.{cell_cmp}
use Rattle.serde_json.specs.Data.{no_members}
use Rattle.map_model.specs.declared.owner.MemberOwner.TheVariants as members
use Rattle.map_model.specs.declared.owner.Owner.TheVariants as owners
use Rattle.map_model.specs.declared.parts.Body.{Body}
use Rattle.map_model.specs.declared.parts.Body.TheVariants.{Tiles, Objects}
use Rattle.map_model.specs.declared.parts.Layer.{Layer}
use Rattle.map_model.specs.Bodies.{body_with_contents, body_with_tiles, objects_in}
use Rattle.map_model.specs.Document.{DocumentParts, with_map}
use Rattle.map_model.specs.Groups.{bare, body_with_layers, inside}
use Rattle.map_model.specs.Lists.{or_empty}
use Rattle.map_model.specs.Lookups.{cell_of, layer_with_tiles}
use Rattle.map_model.specs.Objects.{objects_of}
use Rattle.map_model.proofs.BodyLaws.{group_in-contents}
use Rattle.edits.specs.Covering.{covered, covered_map, covered_value, lets_change, where_selected}
use Rattle.line_frames.proofs.Cells.{cell-covered}
use Rattle.line_frames.proofs.Kept.{cell-kept, layer_head-kept, layer_property-kept, layer_of_object-kept, object_members-kept, object_property-kept, outline-kept}
use Rattle.line_frames.specs.Places.{AgreeAt, Cell, LayerOf, MembersOf, Outline, Place, PropertyOf, Selection, layer_outline}

-- ---- tests
no_some : {X : Type 0} (o : Option X) → is_some o ≡ false → o ≡ None
no_some None e = refl
no_some (Some x) e = cc

and_second : (a b : Bool) → a ≡ true → (a && b) ≡ false → b ≡ false
and_second true b e f = f
and_second false b e f = cc

pub and_first : (a b : Bool) → (a && b) ≡ true → a ≡ true
and_first true b e = refl
and_first false b e = e

pub same_number : (a b : ℕ) → nat_eq a b ≡ true → a ≡ b
same_number a b e = grind (arith, nat_tests)

pub other_number : (n a b : ℕ) → nat_eq a b ≡ false → nat_eq n b ≡ true → nat_eq n a ≡ true → ⊥
other_number n a b e h k =
    let first : n ≡ b = same_number n b h in
    let second : n ≡ a = same_number n a k in
    grind (arith, nat_tests)

-- ---- a tile layer with other values
module _ (g : List ℕ → List ℕ) where
  inner-tiles : (l : Layer) → inside (layer_with_tiles g l) ≡ inside l
  inner-tiles l = ap or_empty (group_in-contents g (λ os. os) l.body)

  objects-tiles : (l : Layer) → objects_of (layer_with_tiles g l) ≡ objects_of l
  objects-tiles l = by_body l.body
    where
      by_body : (b : Body) → objects_in (body_with_tiles g b) ≡ objects_in b
      by_body (Objects os) = refl
      by_body b = refl

  outline-tiles : (l : Layer) → layer_outline (bare (layer_with_tiles g l)) ≡ layer_outline (bare l)
  outline-tiles l = ap (λ b. record l { name = []; visible = true; properties = []; kept = no_members; body = b }) (by_body l.body)
    where
      by_body : (b : Body) → body_with_contents (λ cells. []) (λ os. []) (body_with_layers (λ ls. []) (body_with_tiles g b))
          ≡ body_with_contents (λ cells. []) (λ os. []) (body_with_layers (λ ls. []) b)
      by_body (Tiles e cells) = refl
      by_body (Objects os) = refl
      by_body b = refl

-- ---- the places of the document
-- whether a place is a cell of the layer over which something lies
abbrev pub lies_over : ℕ → (ℕ → ℕ → Option ℕ) → Place → Bool
lies_over layer over (Cell id x y) = nat_eq id layer && is_some (over x y)
lies_over layer over place = false

module _ (layer : ℕ) (over : ℕ → ℕ → Option ℕ) (d : DocumentParts) where
  untouched_cell : (id x y : ℕ) → (nat_eq id layer && is_some (over x y)) ≡ false → AgreeAt (Cell id x y) (with_map (covered_map layer over) d) d
  untouched_cell id x y none = by_test (nat_eq id layer) refl
    where
      as_it_was : (o : Option ℕ) → option_map (λ old. old) o ≡ o
      as_it_was None = refl
      as_it_was (Some value) = refl

      by_test : (t : Bool) → nat_eq id layer ≡ t → AgreeAt (Cell id x y) (with_map (covered_map layer over) d) d
      by_test true e =
          let nothing : over x y ≡ None = no_some (over x y) (and_second (nat_eq id layer) (is_some (over x y)) e none) in
          subst (λ n. cell_of (covered_map layer over d.map) n x y ≡ cell_of d.map n x y) (sym (same_number id layer e))
          (cell-covered layer over d.map x y ∙ ap (λ o. option_map (covered_value o) (cell_of d.map layer x y)) nothing ∙ as_it_was (cell_of d.map layer x y))
      by_test false e =
          cell-kept layer (layer_with_tiles (covered d.map.width over)) (inner-tiles (covered d.map.width over)) (λ l. refl) d.map id x y
          (λ n l h k. absurd (other_number l.id id layer e h k))

  pub covered-outside : (place : Place) → lies_over layer over place ≡ false → AgreeAt place (with_map (covered_map layer over) d) d
  covered-outside (Cell id x y) e = untouched_cell id x y e
  covered-outside (MembersOf members.Map) e = refl
  covered-outside (MembersOf (members.Layer id)) e =
      let g = covered d.map.width over in
      layer_head-kept layer (layer_with_tiles g) (inner-tiles g) (λ l. refl) d.map id (λ l h k. refl)
  covered-outside (MembersOf (members.Object id)) e =
      let g = covered d.map.width over in
      object_members-kept layer (layer_with_tiles g) (inner-tiles g) (λ l. refl) d (objects-tiles g) id
  covered-outside (MembersOf (members.Tileset first_id)) e = refl
  covered-outside (PropertyOf owners.Map name) e = refl
  covered-outside (PropertyOf (owners.Layer id) name) e =
      let g = covered d.map.width over in
      layer_property-kept layer (layer_with_tiles g) (inner-tiles g) (λ l. refl) d id name (λ l h k. refl)
  covered-outside (PropertyOf (owners.Object id) name) e =
      let g = covered d.map.width over in
      object_property-kept layer (layer_with_tiles g) (inner-tiles g) (λ l. refl) d (objects-tiles g) id name
  covered-outside (LayerOf id) e =
      let g = covered d.map.width over in
      layer_of_object-kept layer (layer_with_tiles g) (inner-tiles g) (λ l. refl) d (objects-tiles g) id
  covered-outside Selection e = refl
  covered-outside Outline e =
      let g = covered d.map.width over in
      outline-kept layer (layer_with_tiles g) (inner-tiles g) (λ l. refl) d (outline-tiles g)

-- two documents, of which the cells of a layer take what lies over them, where nothing but the selection tells what that is
pub covered-inside : (layer : ℕ) (over : ℕ → ℕ → Option ℕ) (d e : DocumentParts) → d.selection ≡ e.selection → (id x y : ℕ) → nat_eq id layer ≡ true
    → AgreeAt (Cell id x y) d e
    → AgreeAt (Cell id x y) (with_map (covered_map layer (where_selected d.selection over)) d) (with_map (covered_map layer (where_selected e.selection over)) e)
covered-inside layer over d e selected id x y own same =
    let is = same_number id layer own in
    let m = covered_map layer (where_selected d.selection over) d.map in
    let n = covered_map layer (where_selected e.selection over) e.map in
    subst (λ q. cell_of m q x y ≡ cell_of n q x y) (sym is)
    (cell-covered layer (where_selected d.selection over) d.map x y
    ∙ (λ i. option_map (covered_value (where_selected (selected i) over x y)) (subst (λ q. cell_of d.map q x y ≡ cell_of e.map q x y) is same i))
    ∙ sym (cell-covered layer (where_selected e.selection over) e.map x y))

-- where nothing lies over a cell, nothing lies over it that the selection lets through
pub none-selected : (selection : set.FinSet cell_cmp) (layer : ℕ) (over : ℕ → ℕ → Option ℕ) (place : Place) → lies_over layer over place ≡ false
    → lies_over layer (where_selected selection over) place ≡ false
none-selected selection layer over (Cell id x y) e = by_tests (nat_eq id layer) (lets_change selection (x, y)) e
  where
    by_tests : (s t : Bool) → (s && is_some (over x y)) ≡ false → (s && is_some (cond t (over x y) None)) ≡ false
    by_tests true true h = h
    by_tests true false h = refl
    by_tests false t h = refl
none-selected selection layer over place e = e
