use Rattle.std.proofs.Common.{◌≡◌, refl, sym, ap, subst, ◌∙◌}
use Rattle.map_model.specs.declared.edit.Side.TheVariants.{Before}
use Rattle.map_model.specs.CellEdits.{AreInRowOrder}
use Rattle.map_model.specs.Document.{painted}
use Rattle.edits.specs.Merging.{joined}
use Rattle.paint_commands.specs.Painting.{side_of}
use Rattle.own_commands.proofs.FrameTurns.{tag-layer, order_merged, frame_merged}
use Rattle.own_commands.proofs.frame.FrameCommand.merge.Goals as goal

pub new-requires : goal.new-requires
new-requires c =
    let f = c.args.self.now in
    let asked = rw c.in-Cells.is at c.requires in
    let same : c.in-Cells.layer ≡ f.layer = tag-layer f.layer f.follows c.in-Cells.id c.in-Cells.layer (c.has_tag.ensures.0 c.if-not-has_tag.false) in
    let cells : c.in_ok-joined.joined.items ≡ joined f.cells c.in-Cells.cells.now = c.in_ok-joined.ensures
    ∙ ap (λ es. joined es c.in-Cells.cells.now) c.as_slice.ensures.cells in
    subst AreInRowOrder (sym cells) (order_merged f.layer f.follows f.is_made f.cells c.in-Cells.cells.now c.args.document.now (rw same at asked.0)
    (rw same at asked.1))

pub returns-clause-merged : goal.returns-clause-merged
returns-clause-merged c told =
    let f = c.args.self.now in
    let newer = c.in-Cells.cells.now in
    let d = c.args.document.now in
    let asked = rw c.in-Cells.is at c.requires in
    let same : c.in-Cells.layer ≡ f.layer = tag-layer f.layer f.follows c.in-Cells.id c.in-Cells.layer (c.has_tag.ensures.0 c.if-not-has_tag.false) in
    let cells : c.new.result ≡ joined f.cells newer = c.new.ensures ∙ c.in_ok-joined.ensures ∙ ap (λ es. joined es newer) c.as_slice.ensures.cells in
    let merged = frame_merged f.layer f.follows f.is_made f.cells newer d (rw same at asked.0) (rw same at asked.1) in
    rw (c.in-Cells.is, cells) (
    record {
      fits = merged.0;
      undone = merged.1 ∙ ap (λ l. painted f.layer f.cells (side_of f.is_made) (painted l newer Before d)) (sym same);
      names = refl;
    }
    )
