-- How a line is refused that a layer below refuses: for that layer's reason, or for want of memory. And refusals of
-- layers below that other lines have, too.
use Rattle.refusals.specs.declared.edit_fault.EditFault.{EditFault}
use Rattle.refusals.specs.declared.edit_fault.EditFault.TheVariants as edit_faults
use Rattle.refusals.specs.declared.more_fault.MoreFault.{MoreFault}
use Rattle.refusals.specs.declared.more_fault.MoreFault.TheVariants as more_faults
use Rattle.refusals.specs.declared.refusal.Refusal.{Refusal}
use Rattle.refusals.specs.declared.refusal.Refusal.TheVariants.{Stack, Edit, Store, Map, MemberOfOtherLines, NoSuchMember, NoMemory}
use Rattle.refusals.specs.declared.stack_fault.StackFault.{StackFault}
use Rattle.refusals.specs.declared.stack_fault.StackFault.TheVariants as stack_faults
use Rattle.refusals.specs.declared.store_fault.StoreFault.{StoreFault}
use Rattle.refusals.specs.declared.store_fault.StoreFault.TheVariants as store_faults

abbrev pub refusal_of_stack : StackFault → Refusal
refusal_of_stack stack_faults.NoMemory = NoMemory
refusal_of_stack fault = Stack fault

abbrev pub refusal_of_edit : EditFault → Refusal
refusal_of_edit edit_faults.NoMemory = NoMemory
refusal_of_edit fault = Edit fault

abbrev pub refusal_of_more : MoreFault → Refusal
refusal_of_more (more_faults.Edit fault) = refusal_of_edit fault
refusal_of_more (more_faults.Map refusal) = Map refusal
refusal_of_more more_faults.MemberOfOtherLines = MemberOfOtherLines
refusal_of_more more_faults.NoSuchMember = NoSuchMember

abbrev pub refusal_of_store : StoreFault → Refusal
refusal_of_store store_faults.Memory = NoMemory
refusal_of_store fault = Store fault

abbrev pub stack_not_empty : Refusal
stack_not_empty = Stack stack_faults.NotEmpty

abbrev pub out_of_range : Refusal
out_of_range = Edit edit_faults.OutOfRange

abbrev pub no_such_file : Refusal
no_such_file = Store store_faults.Missing

abbrev pub store_failed : Refusal
store_failed = Store store_faults.Device
