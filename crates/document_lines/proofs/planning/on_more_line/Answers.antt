use Rattle.std.proofs.Common.{refl, sym, ap, ◌∙◌}
use Rattle.undo_stack.specs.History.{current}
use Rattle.document_lines.proofs.planning.on_more_line.Goals as goal

pub returns-in-PutObject-clause-plans : goal.returns-in-PutObject-clause-plans
returns-in-PutObject-clause-plans g c =
    let is = c.document-in-PutObject.ensures ∙ ap current c.seek_layer.ensures.same in
    rw (c.in-PutObject.is, sym is) (c.plan_put_object.ensures, c.seek_layer.ensures.same)

pub returns-in-TakeProperty-clause-plans : goal.returns-in-TakeProperty-clause-plans
returns-in-TakeProperty-clause-plans g c =
    let is = c.document-in-TakeProperty.ensures ∙ ap current c.seek_owner-in-TakeProperty.ensures.same in
    rw (c.in-TakeProperty.is, sym is) (c.plan_take_property.ensures, c.seek_owner-in-TakeProperty.ensures.same)

pub returns-in-PutProperty-clause-plans : goal.returns-in-PutProperty-clause-plans
returns-in-PutProperty-clause-plans g c =
    let is = c.document-in-PutProperty.ensures ∙ ap current c.seek_owner.ensures.same in
    rw (c.in-PutProperty.is, sym is) (c.plan_put_property.ensures, c.seek_owner.ensures.same)

pub returns-in-ReparentObject-clause-plans : goal.returns-in-ReparentObject-clause-plans
returns-in-ReparentObject-clause-plans g c =
    let is = c.document-in-ReparentObject.ensures ∙ ap current c.seek_object.ensures.same in
    rw (c.in-ReparentObject.is, sym is) (c.plan_reparent_object.ensures, c.seek_object.ensures.same)

pub returns-in-NumberTileset-clause-plans : goal.returns-in-NumberTileset-clause-plans
returns-in-NumberTileset-clause-plans g c =
    rw (c.in-NumberTileset.is, sym c.document-in-NumberTileset.ensures) (c.plan_number_tileset.ensures, refl)

pub returns-in-Extend-clause-plans : goal.returns-in-Extend-clause-plans
returns-in-Extend-clause-plans g c = rw (c.in-Extend.is, sym c.document-in-Extend.ensures) (c.plan_extend.ensures, refl)

pub returns-in-PutLayer-clause-plans : goal.returns-in-PutLayer-clause-plans
returns-in-PutLayer-clause-plans g c = rw (c.in-PutLayer.is, sym c.document-in-PutLayer.ensures) (c.plan_put_layer.ensures, refl)
