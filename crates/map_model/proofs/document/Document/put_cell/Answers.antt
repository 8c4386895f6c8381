use Rattle.std.proofs.Common.{◌≡◌, ◌<◌, ◌+◌, ◌*◌, ap, ◌∙◌, rules}
use Rattle.map_model.specs.declared.document.Document.TheInside.{Inside}
use Rattle.map_model.specs.Document.{DocumentParts}
use Rattle.map_model.specs.CellEdits.{with_value}
use Rattle.map_model.specs.Lookups.{HasTiles}
use Rattle.map_model.specs.WellFormed.{IsTileValue}
use Rattle.map_model.proofs.CellEdits.{with_value-keeps}
use Rattle.map_model.proofs.Keeps.{number-within, with_tiles-keeps}
use Rattle.map_model.proofs.Selections.{selection-IsSelectionOf}
use Rattle.map_model.proofs.document.Document.put_cell.Goals as goal

pub set_in-requires-clause-number : goal.set_in-requires-clause-number
set_in-requires-clause-number c =
    let m = c.self-inside.inside.0.0.parts in
    let is : m ≡ c.args.self.now.map = ap (λ (i : Inside). i.map) c.self-inside.view_is ∙ ap (λ (d : DocumentParts). d.map) c.self.view_is in
    let tiles : HasTiles m c.args.layer = rw is c.requires.tiles in
    let column : c.args.x < m.width = rw is c.requires.column in
    let row : c.args.y < m.height = rw is c.requires.row in
    let at : c.index-at.result ≡ c.args.y * m.width + c.args.x = search rules in
    number-within m c.args.layer c.args.x c.args.y c.index-at.result at column row tiles c.self-inside.invariant

pub invariant_of-self-inside : goal.invariant_of-self-inside
invariant_of-self-inside c =
    let range : IsTileValue c.args.value = search rules in
    with_tiles-keeps c.args.layer (with_value c.index-at.result c.args.value) c.self-inside.inside.0.0.parts c.set_in.new.layers c.set_in.ensures
    (with_value-keeps c.index-at.result c.args.value range) c.self-inside.invariant

pub invariant_of-self : goal.invariant_of-self
invariant_of-self c = record { map = invariant_of-self-inside c; selection = selection-IsSelectionOf c.self-inside.view_is c.self.invariant }

pub returns-clause-well_formed : goal.returns-clause-well_formed
returns-clause-well_formed c = invariant_of-self c
