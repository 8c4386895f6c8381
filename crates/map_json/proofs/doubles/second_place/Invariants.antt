use Rattle.std.proofs.Common.{◌≡◌, drop}
use Rattle.std.specs.Ordering.{is_eq}
use Rattle.std.specs.BTreeSet.{contains}
use Rattle.map_json.specs.Distinctness.{are_distinct}
use Rattle.map_json.proofs.Meetings.{go_on}
use Rattle.map_json.proofs.doubles.second_place.Given as goal

abbrev pub invariant-loop-at : goal.invariant-loop-at
invariant-loop-at g l = go_on (λ a b. is_eq (g.K.Ord.cmp a b)) (contains g.K.Ord.cmp l.met) (drop l.at l.keys)
    ≡ are_distinct (λ a b. is_eq (g.K.Ord.cmp a b)) l.keys
