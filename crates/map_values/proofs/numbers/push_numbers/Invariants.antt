use Rattle.std.proofs.Common.{◌≡◌, ◌++◌, length, false}
use Rattle.serde_json.specs.Written.{items_text}
use Rattle.map_model.specs.Lists.{Each}
use Rattle.map_model.specs.WellFormed.{IsTileValue}
use Rattle.map_values.specs.Arrays.{items_by, whole_tree}
use Rattle.map_values.proofs.numbers.push_numbers.Given as goal

abbrev pub invariant-loop-rest : goal.invariant-loop-rest
invariant-loop-rest l = record {
  text : l.text.items ++ items_text l.later (items_by whole_tree l.rest) ≡ l.initial.text.items ++ items_text false (items_by whole_tree l.numbers);
  values : Each IsTileValue l.rest;
}

abbrev pub decreases-loop-rest : goal.decreases-loop-rest
decreases-loop-rest l = length l.rest
