use Rattle.std.proofs.Common.{◌+◌, ◌*◌}
use Rattle.map_model.proofs.+seek.Given as goal

abbrev pub decreases-seek::seek_in_layers : goal.decreases-seek::seek_in_layers
decreases-seek::seek_in_layers a = 2 * a.groups + 1

abbrev pub decreases-parts::Body::seek_object : goal.decreases-parts::Body::seek_object
decreases-parts::Body::seek_object a = 2 * a.groups
