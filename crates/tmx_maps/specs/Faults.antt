-- The faults of the two readers, as faults of a map.
use Rattle.xml_text.specs.declared.fault.Fault.{Fault as TextFault}
use Rattle.xml_text.specs.declared.fault.Fault.TheVariants as text
use Rattle.tmx_tree.specs.declared.fault.Fault.{Fault as TreeFault}
use Rattle.tmx_tree.specs.declared.fault.Fault.TheVariants as tree
use Rattle.tmx_maps.specs.declared.fault.Fault.{Fault}
use Rattle.tmx_maps.specs.declared.fault.Fault.TheVariants.{Memory, NotXml, NotAMap}

abbrev pub fault_of_text : TextFault → Fault
fault_of_text text.Memory = Memory
fault_of_text (text.Flawed flaw place) = NotXml flaw place

abbrev pub fault_of_tree : TreeFault → Fault
fault_of_tree tree.Memory = Memory
fault_of_tree (tree.Refused refusal) = NotAMap refusal
