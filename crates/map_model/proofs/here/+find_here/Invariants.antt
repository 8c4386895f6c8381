use Rattle.map_model.proofs.here.+find_here.Given as goal

abbrev pub decreases-find_here : goal.decreases-find_here
decreases-find_here a = a.groups
