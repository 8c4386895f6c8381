-- Of what sort a fault is.
use Rattle.std.specs.Prelude.{Bool, true, false, not}
use Rattle.tiled_files.specs.declared.fault.FileFault.{FileFault}
use Rattle.tiled_files.specs.declared.fault.FileFault.TheVariants.{Aside, Xml}
use Rattle.tiled_maps.specs.declared.fault.Fault.TheVariants as aside
use Rattle.tmx_maps.specs.declared.fault.Fault.TheVariants as xml

abbrev pub is_memory : FileFault → Bool
is_memory (Aside aside.Memory) = true
is_memory (Aside aside.NotJson) = false
is_memory (Aside aside.NameTaken) = false
is_memory (Aside aside.TooManyFractions) = false
is_memory (Aside aside.TooDeep) = false
is_memory (Aside aside.BadChunk) = false
is_memory (Aside aside.Overlap) = false
is_memory (Aside aside.TooLarge) = false
is_memory (Aside aside.Unlike) = false
is_memory (Xml xml.Memory) = true
is_memory (Xml (xml.NotXml flaw place)) = false
is_memory (Xml (xml.NotAMap refusal)) = false
is_memory (Xml xml.NotJson) = false
is_memory (Xml xml.NoTmx) = false

-- a fault that is neither of memory nor of what is neither JSON nor XML
abbrev pub is_refusal : FileFault → Bool
is_refusal (Aside aside.Memory) = false
is_refusal (Aside aside.NotJson) = false
is_refusal (Aside aside.NameTaken) = true
is_refusal (Aside aside.TooManyFractions) = true
is_refusal (Aside aside.TooDeep) = true
is_refusal (Aside aside.BadChunk) = true
is_refusal (Aside aside.Overlap) = true
is_refusal (Aside aside.TooLarge) = true
is_refusal (Aside aside.Unlike) = true
is_refusal (Xml fault) = not (is_memory (Xml fault))
