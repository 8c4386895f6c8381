-- The cells of a map of which some have been painted: the others stay.
use Rattle.std.proofs.Common.{◌≡◌, ◌≢◌, ℕ, zero, suc, ◌+◌, ◌*◌, ◌/◌, ◌<◌, List, [], ◌∷◌, refl, sym, ap, ◌∙◌}
use Rattle.std.proofs.Common.{subst, arith}
use Rattle.std.specs.List.{slice_get, slice_set}
use Rattle.std.proofs.lemmas.Bool.Decides.{nat_tests}
use Rattle.std.proofs.lemmas.Nat.{div-mul-add}
use Rattle.map_model.specs.declared.edit.CellEdit.{CellEdit}
use Rattle.map_model.specs.declared.edit.Side.{Side}
use Rattle.map_model.specs.declared.limits.TheConstants.{MAX_SIDE}
use Rattle.map_model.specs.declared.parts.Body.{Body}
use Rattle.map_model.specs.declared.parts.Body.TheVariants.{Tiles}
use Rattle.map_model.specs.declared.parts.MapParts.{MapParts}
use Rattle.map_model.specs.Bodies.{body_with_tiles, tile_at}
use Rattle.map_model.specs.CellEdits.{cell_number, put_values, side_value}
use Rattle.map_model.specs.Lists.{Each, or_empty}
use Rattle.map_model.specs.Lookups.{IsWithin, cell_of, layer_with_tiles, with_edits}
use Rattle.map_model.specs.WellFormed.{IsSize, layer_ids}
use Rattle.map_model.proofs.BodyLaws.{group_in-contents}
use Rattle.document_lines.proofs.KeptCells.{cell_of-with_layer, layer_ids-with_layer}

-- ---- values that are not written
slice_get-set_other : (vs : List ℕ) (n k v : ℕ) → n ≢ k → slice_get (slice_set vs n v) k ≡ slice_get vs k
slice_get-set_other [] zero k v h = refl
slice_get-set_other [] (suc n) k v h = refl
slice_get-set_other (w ∷ vs) zero zero v h = absurd (h refl)
slice_get-set_other (w ∷ vs) zero (suc k) v h = refl
slice_get-set_other (w ∷ vs) (suc n) zero v h = refl
slice_get-set_other (w ∷ vs) (suc n) (suc k) v h = slice_get-set_other vs n k v (λ e. h (ap suc e))

put_values-other : (width : ℕ) (side : Side) (k : ℕ) (es : List CellEdit) (vs : List ℕ) → Each (λ e. cell_number width e ≢ k) es
    → slice_get (put_values width side es vs) k ≡ slice_get vs k
put_values-other width side k [] vs h = refl
put_values-other width side k (e ∷ es) vs h = put_values-other width side k es (slice_set vs (cell_number width e) (side_value side e)) h.1
    ∙ slice_get-set_other vs (cell_number width e) k (side_value side e) h.0

tile_at-tiles : (g : List ℕ → List ℕ) (number : ℕ) (b : Body) → ((vs : List ℕ) → slice_get (g vs) number ≡ slice_get vs number)
    → tile_at (body_with_tiles g b) number ≡ tile_at b number
tile_at-tiles g number (Tiles e cells) h = h cells
tile_at-tiles g number b h = refl

-- ---- numbers of cells
same-row : (width x y a b : ℕ) → x < width → a < width → b * width + a ≡ y * width + x → b ≡ y
same-row width x y a b l k e = sym (div-mul-add b width a k) ∙ ap (λ n. n / width) e ∙ div-mul-add y width x l

same-column : (width x y a b : ℕ) → b ≡ y → b * width + a ≡ y * width + x → a ≡ x
same-column width x y a b row e = let same : b * width ≡ y * width = ap (λ n. n * width) row in omega arith

-- ---- cells that are painted all have P: another cell stays
module _ (m : MapParts) (layer : ℕ) (P : ℕ → ℕ → ℕ → Type 0) where
  other-numbers : (x y : ℕ) → x < m.width → (P layer x y → ⊥) → (es : List CellEdit) → Each (IsWithin m) es → Each (λ e. P layer e.x e.y) es
      → Each (λ e. cell_number m.width e ≢ y * m.width + x) es
  other-numbers x y l not [] within told = tt
  other-numbers x y l not (e ∷ es) within told = (
    λ q.
        let row = same-row m.width x y e.x e.y l within.0.0 q in
        let column = same-column m.width x y e.x e.y row q in
        not (subst (λ n. P layer n y) column (subst (λ n. P layer e.x n) row told.0)),
    other-numbers x y l not es within.1 told.1,
  )

  pub painted-others : (side : Side) (es : List CellEdit) → Each (IsWithin m) es → Each (λ e. P layer e.x e.y) es → (id x y : ℕ) → (P id x y → ⊥)
      → cell_of (with_edits m layer es side) id x y ≡ cell_of m id x y
  painted-others side es within told id x y not =
      let g = put_values m.width side es in
      let number = y * m.width + x in
      cell_of-with_layer layer (layer_with_tiles g) (λ l. refl) (λ l. ap or_empty (group_in-contents g (λ os. os) l.body)) m id x y
      (λ column row l own here.
      let same : layer ≡ id = grind (arith, nat_tests) in
      let inside : x < m.width = grind (arith, nat_tests) in
      tile_at-tiles g number l.body (λ vs. put_values-other m.width side number es vs
      (other-numbers x y inside (λ p. not (subst (λ n. P n x y) same p)) es within told)))

pub painted-ids : (m : MapParts) (layer : ℕ) (side : Side) (es : List CellEdit) → layer_ids (with_edits m layer es side).layers ≡ layer_ids m.layers
painted-ids m layer side es =
    let g = put_values m.width side es in
    layer_ids-with_layer layer (layer_with_tiles g) (λ l. refl) (λ l. ap or_empty (group_in-contents g (λ os. os) l.body)) m

-- ---- what is told of cells that any map can have
pub Each-told : (Q : CellEdit → Type 0) (m : MapParts) (es : List CellEdit) → IsSize m.width m.height → Each (IsWithin m) es
    → Each (λ e. e.x < MAX_SIDE → Q e) es → Each Q es
Each-told Q m [] size within told = tt
Each-told Q m (e ∷ es) size within told = (told.0 (omega (arith, within.0.0, size.width_limit)), Each-told Q m es size within.1 told.1)
