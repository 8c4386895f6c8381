use Rattle.map_model.specs.Properties.{tier_of}
use Rattle.map_model.proofs.Lookups.{tier_of-low}
use Rattle.document_lines.proofs.planning.given_plans.put_object.Goals as goal

pub put-requires-clause-object : goal.put-requires-clause-object
put-requires-clause-object c =
    let m = c.args.document.now.map in
    c.in-Ok.ensures.sound (tier_of m c.args.layer) (tier_of-low m c.args.layer)
