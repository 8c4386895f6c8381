use Rattle.map_model.specs.Objects.{object_with_placing}
use Rattle.map_model.proofs.ObjectKeeps.{with_object-keeps, object_with_placing-keeps, object_at-IsPlacing}
use Rattle.map_model.proofs.Selections.{selection-IsSelectionOf}
use Rattle.map_model.proofs.document.Document.set_placing.Goals as goal

pub invariant_of-self-inside : goal.invariant_of-self-inside
invariant_of-self-inside c =
    rw c.place_object_in.ensures.layers
    (with_object-keeps c.args.place (object_with_placing c.args.placing) c.self-inside.inside.0.0.parts
    (object_with_placing-keeps c.args.placing c.requires.placing) c.self-inside.invariant)

pub invariant_of-self : goal.invariant_of-self
invariant_of-self c = record { map = invariant_of-self-inside c; selection = selection-IsSelectionOf c.self-inside.view_is c.self.invariant }

pub returns-clause-back : goal.returns-clause-back
returns-clause-back c = object_at-IsPlacing c.self-inside.inside.0.0.parts c.args.place c.place_object_in.result c.place_object_in.ensures.given
    c.self-inside.invariant

pub returns-clause-well_formed : goal.returns-clause-well_formed
returns-clause-well_formed c = invariant_of-self c
