use Rattle.infinite_maps.proofs.TreeLaw.{all_layers_stay}
use Rattle.infinite_maps.proofs.laws.layers_stay.Goals as goal

pub returns : goal.returns
returns c = all_layers_stay
