use Rattle.std.proofs.Common.{◌≡◌, refl, sym, ap, ◌∙◌}
use Rattle.map_model.specs.declared.edit.Side.TheVariants.{Before}
use Rattle.map_model.specs.Document.{painted}
use Rattle.paint_commands.specs.Painting.{side_of}
use Rattle.paint_commands.proofs.Merges.{tag-layer, order_merged, paint_merged}
use Rattle.paint_commands.proofs.paint.PaintCommandCommand.merge.Goals as goal

pub join-requires : goal.join-requires
join-requires c =
    let p = c.args.self.now in
    let asked = rw c.in-Cells.is at c.requires in
    let same : c.in-Cells.layer ≡ p.layer = tag-layer p.kind p.layer p.follows c.in-Cells.id c.in-Cells.layer (c.has_tag.ensures.0 c.if-not-has_tag.false) in
    order_merged p.kind p.layer p.follows p.is_made p.cells c.in-Cells.cells.now c.args.document.now (rw same at asked.0) (rw same at asked.1)

pub returns-clause-merged : goal.returns-clause-merged
returns-clause-merged c told =
    let p = c.args.self.now in
    let newer = c.in-Cells.cells.now in
    let d = c.args.document.now in
    let asked = rw c.in-Cells.is at c.requires in
    let same : c.in-Cells.layer ≡ p.layer = tag-layer p.kind p.layer p.follows c.in-Cells.id c.in-Cells.layer (c.has_tag.ensures.0 c.if-not-has_tag.false) in
    let merged = paint_merged p.kind p.layer p.follows p.is_made p.cells newer d (rw same at asked.0) (rw same at asked.1) in
    rw (c.in-Cells.is, c.in_ok-join.ensures.joined) (
    record {
      fits = merged.0;
      undone = merged.1 ∙ ap (λ l. painted p.layer p.cells (side_of p.is_made) (painted l newer Before d)) (sym same);
      names = refl;
    }
    )
