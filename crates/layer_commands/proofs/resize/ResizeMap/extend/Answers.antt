use Rattle.std.proofs.Common.{◌≡◌, ◌^◌, ◌<◌, pos, Ok, sym, ap, ◌∙◌, arith}
use Rattle.std.proofs.lemmas.Int.{to_z_pos}
use mir.Syntax.{w32}
use Rattle.map_model.specs.declared.parts.MapParts.{MapParts}
use Rattle.map_model.specs.Canvas.{with_canvas}
use Rattle.edits.specs.Resizing.{after_resize}
use Rattle.layer_commands.specs.Extending.{after_margin, margin_of, notes_of}
use Rattle.layer_commands.proofs.Extended.{extended-lead, with_margin-Ok}
use Rattle.layer_commands.proofs.SizeLaws.{holding_makes}
use Rattle.layer_commands.proofs.resize.ResizeMap.extend.Goals as goal

pub returns-clause-command : goal.returns-clause-command
returns-clause-command c =
    let d = c.args.document.now in
    let canvas = c.in_ok-canvas.canvas in
    let by = margin_of d.map c.args.columns c.args.rows in
    let is : c.parts-parts.result.now ≡ d.map = c.parts-parts.ensures.value ∙ c.map.ensures in
    let small : c.args.columns < 2 ^ 31 = omega (arith, c.requires.columns) in
    let low : c.args.rows < 2 ^ 31 = omega (arith, c.requires.rows) in
    let after : after_resize d c.args.width c.args.height (pos c.args.columns) (pos c.args.rows) ≡ Ok (with_canvas canvas d) =
    rw (to_z_pos w32 c.args.columns small, to_z_pos w32 c.args.rows low) at c.in_ok-canvas.ensures.canvas in
    let notes : c.in-Ok.notes.items ≡ notes_of by d.map = c.in-Ok.ensures {u = tt} ∙ (λ i. notes_of ((c.margin_of.ensures
    ∙ ap (λ (m : MapParts). margin_of m c.args.columns c.args.rows) is) i) (is i)) in
    let lead = extended-lead by canvas d c.in_ok-canvas.ensures.fits (rw c.map.ensures at c.parts-parts.ensures.well_formed) in
    let held = rw notes at c.holding.ensures.notes in
    holding_makes c.holding.result canvas (notes_of by d.map) d (after_margin d c.args.width c.args.height c.args.columns c.args.rows) c.holding.ensures.canvas
    held c.holding.ensures.made (c.in_ok-canvas.ensures.fits, lead.0) (with_margin-Ok by _ _ after ∙ ap Ok (sym lead.1))
