use Rattle.map_model.proofs.here.+innermost_here.Given as goal

abbrev pub decreases-innermost_here : goal.decreases-innermost_here
decreases-innermost_here a = a.groups
