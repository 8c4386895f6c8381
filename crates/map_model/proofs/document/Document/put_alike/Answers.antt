use Rattle.std.proofs.Common.{◌≡◌, ap, ◌∙◌}
use Rattle.map_model.specs.declared.document.Document.TheInside.{Inside}
use Rattle.map_model.specs.Document.{DocumentParts}
use Rattle.map_model.specs.CellEdits.{put_values}
use Rattle.map_model.specs.Lists.{Each}
use Rattle.map_model.specs.Lookups.{HasTiles, IsWithin}
use Rattle.map_model.proofs.CellEdits.{put_values-keeps}
use Rattle.map_model.proofs.Keeps.{numbers-within, with_tiles-keeps}
use Rattle.map_model.proofs.Selections.{selection-IsSelectionOf}
use Rattle.map_model.proofs.document.Document.put_alike.Goals as goal

pub put_alike_in-requires-clause-numbers : goal.put_alike_in-requires-clause-numbers
put_alike_in-requires-clause-numbers c =
    let m = c.self-inside.inside.0.0.parts in
    let is : m ≡ c.args.self.now.map = ap (λ (i : Inside). i.map) c.self-inside.view_is ∙ ap (λ (d : DocumentParts). d.map) c.self.view_is in
    let tiles : HasTiles m c.args.layer = rw is c.requires.tiles in
    let inside : Each (IsWithin m) c.args.edits.now = rw is c.requires.inside in
    numbers-within m c.args.layer c.args.edits.now inside tiles c.self-inside.invariant

pub invariant_of-self-inside : goal.invariant_of-self-inside
invariant_of-self-inside c =
    let m = c.self-inside.inside.0.0.parts in
    with_tiles-keeps c.args.layer (put_values m.width c.args.side c.args.edits.now) m c.put_alike_in.new.layers c.put_alike_in.ensures.layers
    (put_values-keeps m.width c.args.side c.args.edits.now c.put_alike_in.ensures.range) c.self-inside.invariant

pub invariant_of-self : goal.invariant_of-self
invariant_of-self c = record { map = invariant_of-self-inside c; selection = selection-IsSelectionOf c.self-inside.view_is c.self.invariant }

pub returns-in_default-clause-well_formed : goal.returns-in_default-clause-well_formed
returns-in_default-clause-well_formed c = invariant_of-self c
