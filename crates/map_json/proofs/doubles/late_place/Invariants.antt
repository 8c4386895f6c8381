use Rattle.std.proofs.Common.{◌≡◌, drop}
use Rattle.std.specs.Prelude.{nat_lt}
use Rattle.std.specs.List.{list_all}
use Rattle.map_json.proofs.doubles.late_place.Given as goal

abbrev pub invariant-loop-at : goal.invariant-loop-at
invariant-loop-at l = list_all (λ id. nat_lt id l.next) (drop l.at l.ids) ≡ list_all (λ id. nat_lt id l.next) l.ids
