-- What a paint shows, and a paint that takes a newer one in.
use Rattle.std.proofs.Common.{◌≡◌, ℕ, ◌*◌, List, length, Bool, true, false, Some, refl, sym, ap, ◌∙◌, subst, arith}
use Rattle.map_model.specs.declared.edit.CellEdit.{CellEdit}
use Rattle.map_model.specs.declared.edit.Side.TheVariants.{Before}
use Rattle.map_model.specs.CellEdits.{AreInRowOrder, put_values}
use Rattle.map_model.specs.Difference.{difference_in}
use Rattle.map_model.specs.Document.{DocumentParts, painted}
use Rattle.map_model.specs.Lookups.{with_tiles, tiles_in}
use Rattle.map_model.proofs.CellEdits.{length-put_values}
use Rattle.map_model.proofs.Turns.{with_tiles-with_tiles}
use Rattle.map_model.specs.WellFormed.{IsWellFormed}
use Rattle.edits.specs.Merging.{joined}
use Rattle.edits.proofs.Merged.{joined-difference_in}
use Rattle.edits.proofs.RowOrder.{difference-AreInRowOrder}
use Rattle.edits.proofs.Turns.{with_edits-back}
use Rattle.command_api.specs.Exchange.{FitsTurn}
use Rattle.command_api.specs.Names.{WhenEqual}
use Rattle.command_api.specs.Offers.{FitsCells, IsOfferOf}
use Rattle.command_api.proofs.Offering.{follower-offered, nothing-offered}
use Rattle.command_api.specs.Tag.{OfLayer, of_tag}
use Rattle.paint_commands.specs.declared.paint.PaintCommand.{PaintCommand}
use Rattle.paint_commands.specs.declared.paint.PaintKind.{PaintKind}
use Rattle.paint_commands.specs.declared.paint.PaintKind.TheVariants.{Stamp, Erase, Fill}
use Rattle.paint_commands.specs.Painting.{IsDifference, paint_change, paint_exchange, paint_names, shown_cells, side_of}
use Rattle.paint_commands.proofs.Paints.{difference-settled}

module _ (layer : ℕ) (older newer : List CellEdit) (d : DocumentParts) (n : FitsCells layer newer d)
    (o : IsDifference true layer older (painted layer newer Before d)) where
  middle : DocumentParts
  middle = painted layer newer Before d

  first : DocumentParts
  first = painted layer older Before (painted layer newer Before d)

  -- the values of the layer before both
  back : List ℕ → List ℕ
  back vs = put_values d.map.width Before older (put_values d.map.width Before newer vs)

  back-length : (vs : List ℕ) → length (back vs) ≡ length vs
  unfolding back
  back-length vs = length-put_values d.map.width Before older (put_values d.map.width Before newer vs) ∙ length-put_values d.map.width Before newer vs

  first-is : first.map ≡ with_tiles d.map layer back
  unfolding first back
  first-is = with_tiles-with_tiles d.map layer (put_values d.map.width Before older) (put_values d.map.width Before newer)

  exact : joined older newer ≡ difference_in layer first.map d.map
  unfolding first middle
  exact =
      ap (λ es. joined es newer) o.exact
      ∙ ap (joined (difference_in layer (painted layer older Before middle).map middle.map)) n.exact
      ∙ joined-difference_in layer (painted layer older Before middle).map middle.map d.map (omega (arith, n.well_formed.size.wide)) refl refl

  pub merged-undone : painted layer (joined older newer) Before d ≡ painted layer older Before (painted layer newer Before d)
  unfolding first
  merged-undone =
      ap (λ m. record d { map = m })
      (with_edits-back d.map layer back (joined older newer) back-length (exact ∙ ap (λ m. difference_in layer m d.map) first-is) n.tiles n.well_formed
      ∙ sym first-is)

  pub merged-IsDifference : IsDifference true layer (joined older newer) d
  unfolding first
  merged-IsDifference = record {
    well_formed = n.well_formed;
    tiles = n.tiles;
    exact = exact ∙ ap (λ (e : DocumentParts). difference_in layer e.map d.map) (sym merged-undone);
    back = λ made_now. subst (λ (e : DocumentParts). IsWellFormed e.map) (sym merged-undone) (o.back refl);
  }

  pub merged-AreInRowOrder : AreInRowOrder (joined older newer)
  unfolding first
  merged-AreInRowOrder =
      let m = first.map in
      subst AreInRowOrder (sym exact) (difference-AreInRowOrder m.width (tiles_in m layer) (tiles_in d.map layer) (m.width * m.height)
      (omega (arith, n.well_formed.size.wide)))

-- ---- the command
-- a paint that has the tag of a layer paints this layer
pub tag-layer : (k : PaintKind) (own : ℕ) (follows : Bool) (kind layer : ℕ)
    → (paint_names k own follows).tag ≡ Some (record { kind = kind; subject = OfLayer layer }) → layer ≡ own
tag-layer Stamp own follows kind layer e = sym (ap of_tag e)
tag-layer Erase own follows kind layer e = sym (ap of_tag e)
tag-layer Fill own follows kind layer e = cc

-- each paint vanishes when equal
pub paint-WhenEqual : (k : PaintKind) (layer : ℕ) (follows : Bool) → (paint_names k layer follows).vanishing ≡ WhenEqual
paint-WhenEqual Stamp layer follows = refl
paint-WhenEqual Erase layer follows = refl
paint-WhenEqual Fill layer follows = refl

abbrev paint : PaintKind → ℕ → Bool → Bool → List CellEdit → PaintCommand
paint k layer follows made cells = record { kind = k; layer = layer; follows = follows; is_made = made; cells = cells }

-- cells that are made are the difference to the document before them
pub cells-offered : (made : Bool) (layer : ℕ) (cells : List CellEdit) (d : DocumentParts) → (Some made ≡ Some false → ⊥) → IsDifference made layer cells d
    → FitsCells layer cells d × (painted layer cells Before d ≡ painted layer cells (side_of made) d)
cells-offered false layer cells d turn h = absurd (turn refl)
cells-offered true layer cells d turn h = (record { well_formed = h.well_formed; tiles = h.tiles; exact = h.exact; back = h.back refl }, refl)

-- what a paint shows is a lawful offer
pub paint-offered : (k : PaintKind) (layer : ℕ) (follows made : Bool) (cells : List CellEdit)
    → IsOfferOf (paint_change (paint k layer follows made cells)) (shown_cells k follows layer cells)
paint-offered Stamp layer false made cells = nothing-offered _ refl
paint-offered Stamp layer true made cells = follower-offered _ _ refl refl (λ e. cc) (λ d f. cells-offered made layer cells d f.0 f.1.fits)
paint-offered Erase layer false made cells = nothing-offered _ refl
paint-offered Erase layer true made cells = follower-offered _ _ refl refl (λ e. cc) (λ d f. cells-offered made layer cells d f.0 f.1.fits)
paint-offered Fill layer follows made cells = nothing-offered _ refl

pub paint_merged : (k : PaintKind) (layer : ℕ) (follows made : Bool) (older newer : List CellEdit) (d : DocumentParts) → FitsCells layer newer d
    → FitsTurn false (paint_exchange (paint k layer follows made older)) (painted layer newer Before d)
    → FitsTurn false (paint_exchange (paint k layer follows made (joined older newer))) d
    × (painted layer (joined older newer) (side_of made) d ≡ painted layer older (side_of made) (painted layer newer Before d))
paint_merged k layer follows false older newer d n o = absurd (o.0 refl)
paint_merged k layer follows true older newer d n o =
    let exact = merged-IsDifference layer older newer d n o.1.fits in (
      (
        λ e. cc,
        record {
          fits = exact;
          settled = rw (paint-WhenEqual k layer follows) (difference-settled true layer (joined older newer) d exact);
        },
      ),
      merged-undone layer older newer d n o.1.fits,
    )

pub order_merged : (k : PaintKind) (layer : ℕ) (follows made : Bool) (older newer : List CellEdit) (d : DocumentParts) → FitsCells layer newer d
    → FitsTurn false (paint_exchange (paint k layer follows made older)) (painted layer newer Before d) → AreInRowOrder (joined older newer)
order_merged k layer follows false older newer d n o = absurd (o.0 refl)
order_merged k layer follows true older newer d n o = merged-AreInRowOrder layer older newer d n o.1.fits
