use Rattle.std.proofs.Common.{◌≡◌, map, drop}
use Rattle.tmx_maps.specs.SameMap.{is_pair_of}
use Rattle.tmx_maps.proofs.usual.is_pair_of.Given as goal

abbrev pub invariant-loop-pair : goal.invariant-loop-pair
invariant-loop-pair l =
    is_pair_of (map (λ p. (p.0.now, p.1.now)) (drop l.pair-index l.pairs)) l.name l.text ≡ is_pair_of (map (λ p. (p.0.now, p.1.now)) l.pairs) l.name l.text
