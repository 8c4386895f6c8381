use Rattle.std.proofs.Common.{◌≡◌, ◌++◌}
use Rattle.std.specs.List.{flat_map}
use Rattle.map_model.specs.WellFormed.{names_of_property}
use Rattle.map_json.proofs.Meetings.{texts_of}
use Rattle.map_json.proofs.doubles.names_are_distinct.Given as goal

abbrev pub invariant-loop-property : goal.invariant-loop-property
invariant-loop-property g l = texts_of l.names.items ++ flat_map names_of_property l.property-iterator ≡ flat_map names_of_property l.properties
