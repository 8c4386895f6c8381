-- Frames, by the facts of paints: both hold the difference of the documents on their two sides.
use Rattle.std.proofs.Common.{◌≡◌, ℕ, ◌*◌, ◌≤◌, List, length, Bool, true, false, Some, Result, refl, sym, ap, arith}
use Rattle.std.proofs.Math.Nat.{mul-le-mul, mul-mod_right}
use Rattle.std.proofs.lemmas.List.FromFn.{length-map-range_with_len}
use Rattle.map_model.specs.declared.limits.TheConstants.{MAX_SIDE}
use Rattle.map_model.specs.declared.edit.CellEdit.{CellEdit}
use Rattle.map_model.specs.declared.edit.Side.TheVariants.{Before}
use Rattle.map_model.specs.CellEdits.{AreInRowOrder}
use Rattle.map_model.specs.Document.{DocumentParts, painted}
use Rattle.edits.specs.declared.area.Area.{Area}
use Rattle.edits.specs.declared.change.CellChange.{CellChange}
use Rattle.edits.specs.Merging.{joined}
use Rattle.edits.specs.Painting.{IsPainted}
use Rattle.edits.specs.Stamping.{IsBlock}
use Rattle.refusals.specs.declared.edit_fault.EditFault.{EditFault}
use Rattle.command_api.specs.Exchange.{FitsTurn}
use Rattle.command_api.specs.Making.{Makes}
use Rattle.command_api.specs.Offers.{FitsCells, IsOfferOf}
use Rattle.command_api.proofs.Offering.{follower-offered, nothing-offered}
use Rattle.command_api.specs.Tag.{OfLayer, of_tag}
use Rattle.paint_commands.specs.declared.paint.PaintKind.TheVariants.{Stamp}
use Rattle.paint_commands.specs.Painting.{side_of}
use Rattle.paint_commands.specs.Names.{stamp_names}
use Rattle.paint_commands.proofs.Paints.{difference-settled, paint_made}
use Rattle.paint_commands.proofs.Merges.{cells-offered, merged-undone, merged-IsDifference, merged-AreInRowOrder}
use Rattle.own_commands.specs.declared.frame.Frame.{Frame}
use Rattle.own_commands.specs.Framing.{frame_block, frame_change, frame_exchange, frame_names, frame_value, shown_frame}

abbrev frame : ℕ → Bool → Bool → List CellEdit → Frame
frame layer follows made cells = record { layer = layer; follows = follows; is_made = made; cells = cells }

-- the block of a frame is one that a stamp takes
pub frame_block-IsBlock : (a : Area) (tile : ℕ) → 1 ≤ a.width → a.width ≤ MAX_SIDE → a.height ≤ MAX_SIDE → IsBlock (frame_block a tile)
frame_block-IsBlock a tile wide narrow low =
    let count : length (frame_block a tile).values ≡ a.width * a.height = length-map-range_with_len (frame_value a tile) 0 (a.width * a.height) in
    record {
      wide = wide;
      narrow = narrow;
      whole = rw count (mul-mod_right a.width a.height);
      few = rw count (omega (arith, mul-le-mul narrow low));
    }

-- the frame of an edit's change leads to the document after the edit, as a stamp of that change does
pub frame_made : (d : DocumentParts) (id : ℕ) (after : Result DocumentParts EditFault) (change : CellChange) (follows : Bool) → IsPainted d id after change
    → Makes (frame_names id follows) d after (frame_change (frame change.layer follows false change.cells))
frame_made d id after change follows is =
    let stamp = paint_made d id after change is Stamp follows (stamp_names change.layer follows) refl refl in
    record {
      fits = (stamp.fits.0, record { fits = stamp.fits.1.fits; settled = stamp.fits.1.settled });
      document = stamp.document;
      names = ap (λ layer. frame_names layer follows) is.exact.layer;
    }

-- ---- what a frame shows, and a frame that takes a newer one in
-- what a frame shows is a lawful offer
pub frame-offered : (layer : ℕ) (follows made : Bool) (cells : List CellEdit)
    → IsOfferOf (frame_change (frame layer follows made cells)) (shown_frame follows layer cells)
frame-offered layer false made cells = nothing-offered _ refl
frame-offered layer true made cells = follower-offered _ _ refl refl (λ e. cc) (λ d f. cells-offered made layer cells d f.0 f.1.fits)

-- a frame that has the tag of a layer is on this layer
pub tag-layer : (own : ℕ) (follows : Bool) (kind layer : ℕ) → (frame_names own follows).tag ≡ Some (record { kind = kind; subject = OfLayer layer })
    → layer ≡ own
tag-layer own follows kind layer e = sym (ap of_tag e)

pub frame_merged : (layer : ℕ) (follows made : Bool) (older newer : List CellEdit) (d : DocumentParts) → FitsCells layer newer d
    → FitsTurn false (frame_exchange (frame layer follows made older)) (painted layer newer Before d)
    → FitsTurn false (frame_exchange (frame layer follows made (joined older newer))) d
    × (painted layer (joined older newer) (side_of made) d ≡ painted layer older (side_of made) (painted layer newer Before d))
frame_merged layer follows false older newer d n o = absurd (o.0 refl)
frame_merged layer follows true older newer d n o =
    let exact = merged-IsDifference layer older newer d n o.1.fits in (
      (λ e. cc, record { fits = exact; settled = difference-settled true layer (joined older newer) d exact }),
      merged-undone layer older newer d n o.1.fits,
    )

pub order_merged : (layer : ℕ) (follows made : Bool) (older newer : List CellEdit) (d : DocumentParts) → FitsCells layer newer d
    → FitsTurn false (frame_exchange (frame layer follows made older)) (painted layer newer Before d) → AreInRowOrder (joined older newer)
order_merged layer follows false older newer d n o = absurd (o.0 refl)
order_merged layer follows true older newer d n o = merged-AreInRowOrder layer older newer d n o.1.fits
