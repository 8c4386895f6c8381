use Rattle.std.proofs.Common.{◌≡◌, ◌+◌, ◌*◌}
use Rattle.map_model.proofs.+noted.Given as goal

abbrev pub decreases-seek::seek_noted : goal.decreases-seek::seek_noted
decreases-seek::seek_noted a = 2 * a.groups + 1

abbrev pub decreases-parts::Body::seek_noted_object : goal.decreases-parts::Body::seek_noted_object
decreases-parts::Body::seek_noted_object a = 2 * a.groups

abbrev pub invariant-seek::seek_noted-loop-at : goal.invariant-seek::seek_noted-loop-at
invariant-seek::seek_noted-loop-at l = l.layers ≡ l.fn.layers
