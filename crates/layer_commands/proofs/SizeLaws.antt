-- A document that changes places with a canvas and with notes, and back.
use Rattle.std.proofs.Common.{◌≡◌, List, Option, Result, Ok, Err, IfOk, true, false, refl, ap, ◌∙◌}
use Rattle.map_model.specs.declared.canvas.Canvas.{Canvas}
use Rattle.map_model.specs.Canvas.{with_canvas, IsCanvasOf}
use Rattle.map_model.specs.Document.{DocumentParts}
use Rattle.command_api.specs.Exchange.{IsExchanged}
use Rattle.command_api.specs.Making.{Makes}
use Rattle.refusals.specs.declared.edit_fault.EditFault.{EditFault}
use Rattle.layer_commands.specs.declared.notes.Note.{Note}
use Rattle.layer_commands.specs.declared.resize.ResizeMap.{ResizeMap}
use Rattle.layer_commands.specs.Changes.{FitsResized, resize_change, sized}
use Rattle.layer_commands.specs.Names.{resize_names}
use Rattle.layer_commands.specs.Notes.{FitNotes, notes_back, with_notes}
use Rattle.layer_commands.proofs.NoteLaws.{back-FitNotes, notes-back}

-- mid stands on the canvas where d stood, and back leads back
pub record IsLaid (canvas back : Canvas) (d mid : DocumentParts) : Type 0 where
  pub document : mid ≡ with_canvas canvas d
  pub fits : IsCanvasOf mid back
  pub turned : with_canvas back mid ≡ d

module _ (canvas back : Canvas) (ns ms : List (Option Note)) (d mid e : DocumentParts) where
  -- the canvas, and then the notes
  pub laid-first : IsLaid canvas back d mid → FitsResized false canvas ns d → ms ≡ notes_back ns mid → e ≡ with_notes ns mid
      → IsExchanged (sized false canvas ns) (sized true back ms) d e
  laid-first laid fits taken is =
      let there : FitNotes ns mid = rw laid.document fits.1 in
      let left : with_notes ms e ≡ mid = (λ i. with_notes (taken i) (is i)) ∙ notes-back ns mid there in
      record {
        document = is ∙ ap (with_notes ns) laid.document;
        fits = (rw (taken, is) (back-FitNotes ns mid there), rw left laid.fits);
        back = ap (with_canvas back) left ∙ laid.turned;
        names = refl;
        obsolete = refl;
        made = refl;
      }

  -- the notes, and then the canvas
  pub noted-first : IsLaid canvas back mid e → FitsResized true canvas ns d → ms ≡ notes_back ns d → mid ≡ with_notes ns d
      → IsExchanged (sized true canvas ns) (sized false back ms) d e
  noted-first laid fits taken is = record {
    document = laid.document ∙ ap (with_canvas canvas) is;
    fits = (laid.fits, rw (laid.turned, taken, is) (back-FitNotes ns d fits.0));
    back = ap (with_notes ms) laid.turned ∙ (λ i. with_notes (taken i) (is i)) ∙ notes-back ns d fits.0;
    names = refl;
    obsolete = refl;
    made = refl;
  }

-- ---- a command that holds them
pub holding_makes : (r : Result ResizeMap EditFault) (canvas : Canvas) (ns : List (Option Note)) (d : DocumentParts)
    (after : Result DocumentParts EditFault)
    → IfOk r (λ c. c.other.value.canvas ≡ canvas) → IfOk r (λ c. c.other.value.notes.items ≡ ns) → IfOk r (λ c. c.other.value.notes_first ≡ false)
    → FitsResized false canvas ns d → after ≡ Ok (with_notes ns (with_canvas canvas d))
    → IfOk r (λ c. Makes resize_names d after (resize_change c))
holding_makes (Err fault) canvas ns d after held notes made fits is = tt
holding_makes (Ok c) canvas ns d after held notes made fits is = record {
  fits = (λ q. cc, record { fits = rw (made, held, notes) fits; settled = refl });
  document = rw (made, held, notes) is;
  names = refl;
}
