-- What C holds and its parts own what a box at the same types owns.
use mir.Syntax.{impl, tnil, dnil}
use mathlib.Core.List.{[]}
use denote.Signature.{Slot, plain}
use Rattle.std_alloc.proofs.BoxSteps.Form.{Bx}
use Rattle.std_heap.specs.contracts.Global as Heap
use Rattle.std_heap.specs.contracts.GlobalAllocator.TheImpl.{ghosts, dict}
use Rattle.std_heap.proofs.Global.TheLaws as heap
use Rattle.memory_editor.specs.contracts.memory_editor.MemoryEditor as MemoryEditor
use Rattle.memory_editor.proofs.memory_editor.MemoryEditor.TheLaws as session
use Rattle.roskevad_c.specs.contracts.parts.Parts as Parts
use Rattle.roskevad_c.specs.contracts.held.Held as Held

abbrev pub E : Bx
E = record {
  row = MemoryEditor.the_row;
  laws = session.the_row_laws;
  al = record { row = Heap.the_row; laws = heap.the_row_laws; g = ghosts; d = dict; drops = impl [] tnil dnil };
}

abbrev pub FromParts : Slot 0
FromParts = plain (λ _. Parts.the_row MemoryEditor.the_row Heap.the_row ghosts)

abbrev pub FromSeal : Slot 0
FromSeal = plain (λ _. Held.the_row)
