use Rattle.map_model.specs.declared.names.TheConstants.{DATA}
use Rattle.map_values.specs.Arrays.{array_by, whole_tree}
use Rattle.map_json.proofs.PutMembers.{ArePut}
use Rattle.map_json.proofs.map_text.push_numbered.Given as goal

abbrev pub invariant-loop-name : goal.invariant-loop-name
invariant-loop-name l = ArePut DATA.now (array_by whole_tree l.numbers) l.frame l.initial.text.items l.initial.name-iterator l.name-iterator l.later
    l.text.items
