-- What the calls of an edit hand on: the layer of a well-formed map, the extent of an edit in it, and its change.
use Rattle.std.proofs.Common.{◌≡◌, inl, inr, ℕ, ◌/◌, ◌%◌, ◌*◌, ◌<◌, List, length, Bor, Option, Some, None, false, Result, Ok, Err, IfOk, IsSomeAnd, ℤ, mul_comm}
use Rattle.std.proofs.Common.{sym, ap, ◌∙◌, subst, arith}
use Rattle.std.specs.FinSet as set
use Rattle.std.specs.Option.{ok_or}
use Rattle.region.specs.Cells.{cell_cmp}
use Rattle.map_model.specs.declared.parts.Layer.{Layer}
use Rattle.map_model.specs.declared.parts.MapParts.{MapParts}
use Rattle.map_model.specs.declared.edit.CellEdit.{CellEdit}
use Rattle.map_model.specs.CellEdits.{AreInRowOrder}
use Rattle.map_model.specs.Bodies.{IsTiles, tiles_or_none}
use Rattle.map_model.specs.Document.{DocumentParts, with_map}
use Rattle.map_model.specs.Lists.{or_empty}
use Rattle.map_model.specs.Lookups.{layer_of, HasTiles, tiles_in, tiles_of_layer}
use Rattle.map_model.specs.WellFormed.{IsWellFormed}
use Rattle.map_model.proofs.Keeps.{length-tiles_in}
use Rattle.map_model.proofs.Turns.{tiles_in-with_tiles}
use Rattle.refusals.specs.declared.edit_fault.EditFault.{EditFault}
use Rattle.refusals.specs.declared.edit_fault.EditFault.TheVariants.{LayerOfAnotherKind}
use Rattle.edits.specs.declared.area.Area.{Area}
use Rattle.edits.specs.declared.change.CellChange.{CellChange}
use Rattle.edits.specs.declared.span.Span.{Span}
use Rattle.edits.specs.Blocks.{ValueBlock, offset, is_below, stamp_over, erase_over, IsSpan}
use Rattle.edits.specs.Covering.{covered, covered_map}
use Rattle.map_model.specs.Difference.{difference, difference_in}
use Rattle.edits.specs.Laying.{IsLayerOf, IsExtent}
use Rattle.edits.specs.Painting.{IsPainted}
use Rattle.edits.specs.Refusals.{tiles_or_fault}
use Rattle.edits.specs.Stamping.{IsBlock}
use Rattle.edits.proofs.RowOrder.{difference-AreInRowOrder}
use Rattle.edits.proofs.Overs.{stamp_over-column, stamp_over-row, erase_over-column, erase_over-row}

-- ---- the layer
-- the tiles are those of a layer of the well-formed map
pub record IsTheLayer (m : MapParts) (id : ℕ) (tiles : List ℕ) : Type 0 where
  pub well_formed : IsWellFormed m
  pub has : HasTiles m id
  pub is : tiles ≡ tiles_in m id

tiles_of_found : (found : Option Layer) (tiles : List ℕ) → tiles_or_fault found ≡ Ok tiles
    → IsSomeAnd found (λ l. IsTiles l.body) × (tiles ≡ tiles_of_layer found)
tiles_of_found None tiles e = cc
tiles_of_found (Some l) tiles e = by_tiles (tiles_or_none l.body) e
  where
    by_tiles : (o : Option (List ℕ)) → ok_or o LayerOfAnotherKind ≡ Ok tiles → IsSomeAnd o (λ cells. Unit {0}) × (tiles ≡ or_empty o)
    by_tiles None e = cc
    by_tiles (Some cells) e = (tt, cc)

-- the values that an edit finds
pub IsTheLayer-found : (m : MapParts) (id : ℕ) (tiles : List ℕ) → IsWellFormed m → tiles_or_fault (layer_of m id) ≡ Ok tiles → IsTheLayer m id tiles
IsTheLayer-found m id tiles well_formed e =
    let found = tiles_of_found (layer_of m id) tiles e in
    record { well_formed = well_formed; has = found.0; is = found.1 }

pub length-layer : (m : MapParts) (id : ℕ) (tiles : List ℕ) → IsTheLayer m id tiles → length tiles ≡ m.width * m.height
length-layer m id tiles h = ap length h.is ∙ length-tiles_in m id h.has h.well_formed

pub IsLayerOf-map : (m : MapParts) (id : ℕ) (tiles : List ℕ) → IsTheLayer m id tiles → IsLayerOf m.width tiles
IsLayerOf-map m id tiles h =
    let size = length-layer m id tiles h in
    record {
      height = m.height;
      wide = h.well_formed.size.wide;
      narrow = h.well_formed.size.width_limit;
      low = h.well_formed.size.height_limit;
      size = size ∙ mul_comm m.width m.height;
      few = omega (arith, h.well_formed.size.cells_limit);
    }

-- ---- the extent of an edit
-- an edit puts nothing over the columns and rows outside its spans
module _ (m : MapParts) (id : ℕ) (tiles : Bor (List ℕ)) (selection : Bor (set.FinSet cell_cmp)) (layer : IsTheLayer m id tiles.now)
    (over : ℕ → ℕ → Option ℕ) (x y : ℤ) (width height : ℕ) (columns rows : Span)
    (past_column : (a b : ℕ) → is_below (offset x a) width ≡ false → over a b ≡ None)
    (past_row : (a b : ℕ) → is_below (offset y b) height ≡ false → over a b ≡ None)
    (is_columns : IsSpan x width m.width columns) (is_rows : IsSpan y height m.height rows) where
  pub IsExtent-spans : IsExtent over (record { tiles = tiles; width = m.width; columns = columns; rows = rows; selection = selection })
  unfolding IsLayerOf-map
  IsExtent-spans = record {
    layer = IsLayerOf-map m id tiles.now layer;
    columns = is_columns.ordered;
    columns_within = is_columns.within;
    rows = is_rows.ordered;
    rows_within = is_rows.within;
    other_columns = λ a b l other. elim other [ inl k ↦ past_column a b (is_columns.before a k) | inr k ↦ past_column a b (is_columns.after a k l) ];
    other_rows = λ a b l other. elim other [ inl k ↦ past_row a b (is_rows.before b k) | inr k ↦ past_row a b (is_rows.after b k l) ];
  }

whole_rows : (n w : ℕ) → 0 < w → n % w ≡ 0 → n ≡ n / w * w
whole_rows n w l e = omega arith

pub IsExtent-stamp : (m : MapParts) (id : ℕ) (tiles : Bor (List ℕ)) (selection : Bor (set.FinSet cell_cmp)) (columns rows : Span) (b : ValueBlock)
    → IsTheLayer m id tiles.now → IsBlock b
    → IsSpan b.x b.width m.width columns → IsSpan b.y (length b.values / b.width) m.height rows
    → IsExtent (stamp_over b) (record { tiles = tiles; width = m.width; columns = columns; rows = rows; selection = selection })
IsExtent-stamp m id tiles selection columns rows b layer h cs rs =
    IsExtent-spans m id tiles selection layer (stamp_over b) b.x b.y b.width (length b.values / b.width) columns rows
    (stamp_over-column b) (λ x y. stamp_over-row b x y (length b.values / b.width) (whole_rows (length b.values) b.width (omega (arith, h.wide)) h.whole)) cs rs

pub IsExtent-erase : (m : MapParts) (id : ℕ) (tiles : Bor (List ℕ)) (selection : Bor (set.FinSet cell_cmp)) (columns rows : Span) (a : Area)
    → IsTheLayer m id tiles.now
    → IsSpan a.x a.width m.width columns → IsSpan a.y a.height m.height rows
    → IsExtent (erase_over a) (record { tiles = tiles; width = m.width; columns = columns; rows = rows; selection = selection })
IsExtent-erase m id tiles selection columns rows a layer cs rs =
    IsExtent-spans m id tiles selection layer (erase_over a) a.x a.y a.width a.height columns rows (erase_over-column a) (erase_over-row a) cs rs

-- ---- the change
-- the changes of all cells are the difference of the map and the covered one
changes-difference_in : (m : MapParts) (id : ℕ) (tiles : List ℕ) (over : ℕ → ℕ → Option ℕ) → IsTheLayer m id tiles
    → difference m.width tiles (covered m.width over tiles) (length tiles) ≡ difference_in id m (covered_map id over m)
changes-difference_in m id tiles over h =
    ap (λ (vs : List ℕ). difference m.width vs (covered m.width over vs) (length vs)) h.is
    ∙ ap (difference m.width (tiles_in m id) (covered m.width over (tiles_in m id))) (length-tiles_in m id h.has h.well_formed)
    ∙ ap (λ vs. difference m.width (tiles_in m id) vs (m.width * m.height)) (sym (tiles_in-with_tiles m id (covered m.width over) h.has))

pub IsPainted-changes : (d : DocumentParts) (id : ℕ) (over : ℕ → ℕ → Option ℕ) (after : Result DocumentParts EditFault) (tiles : List ℕ) (change : CellChange)
    → after ≡ Ok (with_map (covered_map id over) d) → IsTheLayer d.map id tiles → change.layer ≡ id
    → change.cells ≡ difference d.map.width tiles (covered d.map.width over tiles) (length tiles) → IsPainted d id after change
IsPainted-changes d id over after tiles change accepted layer is cells = record {
  well_formed = layer.well_formed;
  tiles = layer.has;
  over = over;
  accepted = accepted;
  exact = record {
    layer = is;
    cells = cells ∙ changes-difference_in d.map id tiles over layer;
    ordered =
        let P : List CellEdit → Type 0 = AreInRowOrder in
        subst P (sym cells) (difference-AreInRowOrder d.map.width tiles (covered d.map.width over tiles) (length tiles)
        (omega (arith, layer.well_formed.size.wide)));
  };
}

-- where a call made a change of a layer of this width, with this selection, that change is the difference
pub IsPainted-result : (d : DocumentParts) (id : ℕ) (own : ℕ → ℕ → Option ℕ) (after : Result DocumentParts EditFault) (tiles : List ℕ) (width : ℕ)
    (over : ℕ → ℕ → Option ℕ)
    (o : Result CellChange EditFault) → after ≡ Ok (with_map (covered_map id own) d) → IsTheLayer d.map id tiles → width ≡ d.map.width → over ≡ own
    → IfOk o (λ change. change.layer ≡ id) → IfOk o (λ change. change.cells ≡ difference width tiles (covered width over tiles) (length tiles))
    → IfOk o (IsPainted d id after)
IsPainted-result d id own after tiles width over (Ok change) accepted layer wide same is cells =
    IsPainted-changes d id own after tiles change accepted layer is
    (cells ∙ ap (λ w. difference w tiles (covered w over tiles) (length tiles)) wide
    ∙ ap (λ (f : ℕ → ℕ → Option ℕ). difference d.map.width tiles (covered d.map.width f tiles) (length tiles)) same)
IsPainted-result d id own after tiles width over (Err fault) accepted layer wide same is cells = tt
