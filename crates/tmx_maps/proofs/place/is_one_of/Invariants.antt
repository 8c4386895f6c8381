use Rattle.std.proofs.Common.{◌≡◌, map, drop}
use Rattle.tmx_tree.specs.Texts.{is_one_of}
use Rattle.tmx_maps.proofs.place.is_one_of.Given as goal

abbrev pub invariant-loop-name : goal.invariant-loop-name
invariant-loop-name l = is_one_of (map (λ name. name.now) (drop l.name-index l.names)) l.text ≡ is_one_of (map (λ name. name.now) l.names) l.text
