use Rattle.std.proofs.Common.{◌+◌, ◌*◌}
use Rattle.map_model.proofs.groups.+change.Given as goal

abbrev pub decreases-change_along : goal.decreases-change_along
decreases-change_along g a = 2 * a.groups

abbrev pub decreases-change_inside : goal.decreases-change_inside
decreases-change_inside g a = 2 * a.groups + 1
