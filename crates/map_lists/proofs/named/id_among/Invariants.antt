use Rattle.std.proofs.Common.{◌≡◌}
use Rattle.map_lists.specs.Named.{id_of_named}
use Rattle.map_lists.proofs.named.id_among.Given as goal

abbrev pub invariant-loop-object : goal.invariant-loop-object
invariant-loop-object l = id_of_named l.name l.object-iterator ≡ id_of_named l.name l.fn.objects
