use Rattle.std.proofs.Common.{◌∙◌, ap, rules}
use Rattle.map_model.specs.Alike.{fill_values}
use Rattle.map_model.specs.CellEdits.{side_value}
use Rattle.map_model.specs.WellFormed.{IsTileValue}
use Rattle.map_model.proofs.SideBySide.{alike-fill, alike-range}
use Rattle.map_model.proofs.alike.put_alike.Goals as goal

pub returns-in-len1-up-clause-values : goal.returns-in-len1-up-clause-values
returns-in-len1-up-clause-values c =
    c.fill.ensures
    ∙ ap (λ v. fill_values c.args.width v c.args.edits.now c.args.values.now) c.value.ensures
    ∙ alike-fill c.args.width c.args.side c.first-item.result c.args.edits.now c.args.values.now c.requires.alike c.in-len1-up.len_at_least c.first-item.is

pub returns-in-len1-up-clause-range : goal.returns-in-len1-up-clause-range
returns-in-len1-up-clause-range c =
    let range : IsTileValue (side_value c.args.side c.first-item.result) = search rules in
    alike-range c.args.side c.first-item.result c.args.edits.now c.requires.alike c.in-len1-up.len_at_least c.first-item.is range
