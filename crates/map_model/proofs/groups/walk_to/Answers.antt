use Rattle.std.proofs.Common.{rules, ◌∙◌}
use Rattle.map_model.specs.declared.limits.TheConstants.{MAX_GROUPS}
use Rattle.map_model.proofs.TreeChanges.{change_among-same, changed_by}
use Rattle.map_model.proofs.groups.walk_to.Goals as goal

pub returns-then-find_way : goal.returns-then-find_way
returns-then-find_way c =
    let e = c.change_along.ensures in
    changed_by c.args.id MAX_GROUPS (λ l. l) c.args.layers.now c.change_along.new.layers e.layer e.left e.found e.is (search rules)
    ∙ change_among-same c.args.id MAX_GROUPS c.args.layers.now
