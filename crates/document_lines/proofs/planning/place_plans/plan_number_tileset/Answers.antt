use Rattle.edits.specs.TilesetEdits.{after_number_tileset}
use Rattle.property_commands.specs.Names.{number_tileset_names}
use Rattle.document_lines.specs.declared.planned.Edit.TheVariants.{NumberTileset}
use Rattle.document_lines.proofs.Edits.{exact-PlansEdit}
use Rattle.document_lines.proofs.MoreEdits.{edit-answer}
use Rattle.document_lines.proofs.planning.place_plans.plan_number_tileset.Goals as goal

pub returns : goal.returns
returns c =
    let after = after_number_tileset c.args.document.now c.args.first_id c.args.number in
    rw (c.planned.ensures, edit-answer number_tileset_names after)
    (exact-PlansEdit NumberTileset number_tileset_names c.args.document.now after c.new.result c.map.result c.new.ensures.command c.new.ensures.refusal
    c.map.ensures.cases)
