use Rattle.std.proofs.Common.{◌∙◌, ap, subst}
use Rattle.map_model.specs.declared.document.Document.TheInside.{Inside}
use Rattle.map_model.specs.declared.parts.MapParts.{MapParts}
use Rattle.map_model.specs.Document.{DocumentParts}
use Rattle.map_model.specs.Uses.{base_limit}
use Rattle.map_model.specs.WellFormed.{IsWellFormed}
use Rattle.map_model.proofs.Renumbered.{end_of-limit, renumbered-IsWellFormed}
use Rattle.map_model.proofs.Selections.{selection-IsSelectionOf}
use Rattle.map_model.proofs.document.Document.renumber_tileset.Goals as goal

pub move_layers-requires-clause-limit : goal.move_layers-requires-clause-limit
move_layers-requires-clause-limit c = rw c.end_of_tileset-end.ensures (end_of-limit c.args.first_id base_limit c.self-inside.inside.0.0.parts.tilesets)

pub invariant_of-self-inside : goal.invariant_of-self-inside
invariant_of-self-inside c =
    let is = ap (λ (i : Inside). i.map) c.self-inside.view_is ∙ ap (λ (d : DocumentParts). d.map) c.self.view_is in
    let h = subst (λ (m : MapParts). IsWellFormed m) is c.self-inside.invariant in
    rw (c.move_layers.ensures, c.number_tileset_in.ensures, c.end_of_tileset-end.ensures, is)
    (renumbered-IsWellFormed c.args.first_id c.args.to c.args.self.now.map c.requires h)

pub invariant_of-self : goal.invariant_of-self
invariant_of-self c = record { map = invariant_of-self-inside c; selection = selection-IsSelectionOf c.self-inside.view_is c.self.invariant }

pub returns-clause-well_formed : goal.returns-clause-well_formed
returns-clause-well_formed c = invariant_of-self c
