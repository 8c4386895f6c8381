-- How a line is refused whose file says no map.
use Rattle.refusals.specs.declared.refusal.Refusal.{Refusal}
use Rattle.refusals.specs.declared.refusal.Refusal.TheVariants.{Map, NoMemory}
use Rattle.map_values.specs.declared.fault.MapFault.{MapFault}
use Rattle.map_values.specs.declared.fault.MapFault.TheVariants as map_faults

abbrev pub refusal_of_map : MapFault → Refusal
refusal_of_map map_faults.Memory = NoMemory
refusal_of_map (map_faults.Refused refusal) = Map refusal
