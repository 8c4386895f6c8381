use Rattle.std.proofs.Common.{◌≡◌}
use Rattle.std.specs.List.{list_all}
use Rattle.map_model.specs.Groups.{drawn}
use Rattle.map_model.specs.Moving.{own_fits}
use Rattle.map_model.proofs.fits.+fits.Given as goal

abbrev pub invariant-layers_fit-loop-layer : goal.invariant-layers_fit-loop-layer
invariant-layers_fit-loop-layer l = list_all own_fits (drawn l.groups l.tier l.layer-iterator) ≡ list_all own_fits (drawn l.groups l.tier l.fn.layers)
