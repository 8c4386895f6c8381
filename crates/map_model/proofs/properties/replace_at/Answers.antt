use Rattle.map_model.specs.Properties.{property_with_setting}
use Rattle.map_model.proofs.properties.replace_at.Goals as goal
use Rattle.map_model.proofs.ObjectKeeps.{slice_set-change_at}

pub returns-clause-held : goal.returns-clause-held
returns-clause-held c =
    rw (c.replace.ensures.after, c.replace-2.ensures.after) (slice_set-change_at (property_with_setting c.args.setting) c.args.properties.now c.args.at
    c.get_mut-property.result.now c.get_mut-property.ensures.value)
