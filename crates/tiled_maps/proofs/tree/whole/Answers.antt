use Rattle.std.proofs.Common.{◌≡◌, false, sym, ◌∙◌}
use Rattle.serde_json.specs.View.{view}
use Rattle.fractions.specs.declared.place.Place.TheVariants.{Map}
use Rattle.fractions.specs.Fractions.{has_fraction}
use Rattle.tiled_maps.proofs.Answered.{if_not}
use Rattle.fractions.proofs.Whole.{aside-unchanged}
use Rattle.tiled_maps.proofs.tree.whole.Goals as goal

pub returns-then-is_whole : goal.returns-then-is_whole
returns-then-is_whole c =
    let d = view c.args.value in
    let none : has_fraction Map d ≡ false = if_not (has_fraction Map d) (sym c.if-is_whole.true ∙ c.requires) in
    (sym (aside-unchanged Map d none), λ h. h)
