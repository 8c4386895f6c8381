use Rattle.std.proofs.Common.{◌≡◌, subst}
use Rattle.std.specs.Prelude.{IfOk, is_none}
use Rattle.map_json.proofs.Meetings.{are_distinct-numbers}
use Rattle.map_json.proofs.doubles.second_number.Goals as goal

pub returns : goal.returns
returns c = subst (λ y. IfOk c.second_place.result (λ place. is_none place ≡ y)) (are_distinct-numbers c.args.numbers.now) c.second_place.ensures
