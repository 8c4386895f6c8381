-- What is answered for the text of a map that is set aside, put back or laid out, and for what is told of one that is refused.
use Rattle.std.specs.Prelude.{◌≡◌, ◌⊎◌, ℕ, ◌==◌, if◌then◌else◌, List, length, Result, Ok, Err, Option, Some, None, Vec}
use Rattle.std.specs.Global.{Global}
use Rattle.tiled_maps.specs.declared.fault.Fault.{Fault}
use Rattle.tiled_maps.specs.declared.fault.Fault.TheVariants.{Memory, NotJson, NameTaken, TooManyFractions, TooDeep, BadChunk, Overlap, TooLarge, Unlike}
use Rattle.tiled_maps.specs.Texts.{PutsBack}
use Rattle.tiled_files.specs.Kinds.{kind_of_bytes}
use Rattle.tiled_files.specs.Opening.{Opens}
use Rattle.tiled_files.specs.Saving.{Saves}
use Rattle.tiled_files.specs.Tilesets.{HasTileset}
use Rattle.tiled_files.specs.declared.fault.FileFault.{FileFault}
use Rattle.tiled_files.specs.declared.fault.FileFault.TheVariants.{Aside, Xml}
use Rattle.tiled_files.specs.declared.kind.Kind.{Kind}
use Rattle.tiled_files.specs.declared.kind.Kind.TheVariants.{Json, Tmx}
use Rattle.tmx_maps.specs.declared.fault.Fault.{Fault as XmlFault}
use Rattle.tmx_maps.specs.declared.fault.Fault.TheVariants as xml
use Rattle.map_layout.specs.Laid.{LaysOut}
use Rattle.map_layout.specs.declared.fault.LayoutFault.{LayoutFault}
use Rattle.map_layout.specs.declared.fault.LayoutFault.TheVariants as layout_fault
use Rattle.map_layout.specs.declared.layout.Layout.{Layout}
use Rattle.map_layout.specs.declared.layout.Layout.TheVariants.{Tiled, Rows, Minimized, Compact}
use Rattle.map_layout.specs.declared.layout.LineEnd.TheVariants.{Lf}
use Rattle.map_layout.specs.declared.text.LaidText.{LaidText}
use Rattle.map_faults.specs.Faults.{TellsFault}
use Rattle.map_faults.specs.Tilesets.{TellsTilesetFault as TellsTold}
use Rattle.map_faults.specs.declared.faults.ToldFault.{ToldFault}
use Rattle.memory_editor.specs.Buffers.{written}
use Rattle.roskevad_c.specs.declared.answers.TheConstants.{NONE, NO_MEMORY, NOT_JSON, NAME_TAKEN, TOO_DEEP, TOO_GREAT, BAD_CHUNK, OVERLAP, TOO_LARGE, UNLIKE}
use Rattle.roskevad_c.specs.declared.answers.TheConstants.{TOO_MANY_FRACTIONS, NOT_XML, NOT_A_TMX, NO_TMX}

abbrev pub aside_number : Fault → ℕ
aside_number Memory = NO_MEMORY
aside_number NotJson = NOT_JSON
aside_number NameTaken = NAME_TAKEN
aside_number TooManyFractions = TOO_MANY_FRACTIONS
aside_number TooDeep = TOO_DEEP
aside_number BadChunk = BAD_CHUNK
aside_number Overlap = OVERLAP
aside_number TooLarge = TOO_LARGE
aside_number Unlike = UNLIKE

abbrev pub xml_number : XmlFault → ℕ
xml_number xml.Memory = NO_MEMORY
xml_number (xml.NotXml flaw place) = NOT_XML
xml_number (xml.NotAMap refusal) = NOT_A_TMX
xml_number xml.NotJson = NOT_JSON
xml_number xml.NoTmx = NO_TMX

abbrev pub number_of : FileFault → ℕ
number_of (Aside fault) = aside_number fault
number_of (Xml fault) = xml_number fault

-- the size of a text that is made, if there is one of its own
abbrev pub made_size : Result (Option (Vec ℕ Global)) FileFault → ℕ
made_size (Ok None) = NONE
made_size (Ok (Some text)) = length text.items
made_size (Err fault) = number_of fault

-- the buffer with that text
abbrev pub made_bytes : Result (Option (Vec ℕ Global)) FileFault → List ℕ → List ℕ
made_bytes (Ok None) buffer = buffer
made_bytes (Ok (Some text)) buffer = written text.items buffer
made_bytes (Err fault) buffer = buffer

-- what is opened of the bytes is told, and copied
abbrev pub TellsAside : List ℕ → ℕ → List ℕ → List ℕ → Type 0
TellsAside bytes answer old new =
    (made : Result (Option (Vec ℕ Global)) FileFault) × Opens bytes made × (answer ≡ made_size made) × (new ≡ made_bytes made old)

-- a fault of `put_back`, as one of a file
abbrev pub as_file : Result (Option (Vec ℕ Global)) Fault → Result (Option (Vec ℕ Global)) FileFault
as_file (Ok text) = Ok text
as_file (Err fault) = Err (Aside fault)

-- what `put_back` makes of them
abbrev pub TellsBack : List ℕ → ℕ → List ℕ → List ℕ → Type 0
TellsBack bytes answer old new = (made : Result (Option (Vec ℕ Global)) Fault)
    × PutsBack bytes made × (answer ≡ made_size (as_file made)) × (new ≡ made_bytes (as_file made) old)

-- ---- laid out
abbrev pub laid_size : Result LaidText FileFault → ℕ
laid_size (Ok laid) = length laid.text.items
laid_size (Err fault) = number_of fault

abbrev pub laid_bytes : Result LaidText FileFault → List ℕ → List ℕ
laid_bytes (Ok laid) buffer = written laid.text.items buffer
laid_bytes (Err fault) buffer = buffer

-- what is saved of the bytes as a file of a kind, by a source
abbrev pub TellsSaved : Kind → List ℕ → List ℕ → ℕ → List ℕ → List ℕ → Type 0
TellsSaved kind bytes source answer old new =
    (made : Result LaidText FileFault) × Saves kind bytes source made × (answer ≡ laid_size made) × (new ≡ laid_bytes made old)

-- as one of the kind of the source
abbrev pub TellsBackLike : List ℕ → List ℕ → ℕ → List ℕ → List ℕ → Type 0
TellsBackLike bytes source answer old new = TellsSaved (kind_of_bytes source) bytes source answer old new

-- the kind of a number
abbrev pub kind_at : ℕ → Option Kind
kind_at n = if n == 0 then Some Json else (if n == 1 then Some Tmx else None)

-- as one of the kind of a number, or there is no such kind
abbrev pub TellsBackAsKind : Option Kind → List ℕ → List ℕ → ℕ → List ℕ → List ℕ → Type 0
TellsBackAsKind None bytes source answer old new = (answer ≡ TOO_GREAT) × (new ≡ old)
TellsBackAsKind (Some kind) bytes source answer old new = TellsSaved kind bytes source answer old new

abbrev pub TellsBackAs : List ℕ → List ℕ → ℕ → ℕ → List ℕ → List ℕ → Type 0
TellsBackAs bytes source number answer old new = TellsBackAsKind (kind_at number) bytes source answer old new

-- the layout of a number
abbrev pub layout_at : ℕ → Option Layout
layout_at n =
    if n == 0 then Some (Tiled Lf) else (if n == 1 then Some (Rows Lf) else (if n == 2 then Some Minimized else (if n == 3 then Some Compact else None)))

abbrev pub layout_number : LayoutFault → ℕ
layout_number layout_fault.Memory = NO_MEMORY
layout_number layout_fault.NotJson = NOT_JSON
layout_number layout_fault.TooDeep = TOO_DEEP

abbrev pub layout_size : Result (Vec ℕ Global) LayoutFault → ℕ
layout_size (Ok text) = length text.items
layout_size (Err fault) = layout_number fault

abbrev pub layout_bytes : Result (Vec ℕ Global) LayoutFault → List ℕ → List ℕ
layout_bytes (Ok text) buffer = written text.items buffer
layout_bytes (Err fault) buffer = buffer

-- what `lay_out` makes of the bytes in the layout of a number, or there is no such layout
abbrev pub TellsLayoutAt : List ℕ → Option Layout → ℕ → List ℕ → List ℕ → Type 0
TellsLayoutAt bytes None answer old new = (answer ≡ TOO_GREAT) × (new ≡ old)
TellsLayoutAt bytes (Some layout) answer old new =
    (made : Result (Vec ℕ Global) LayoutFault) × LaysOut bytes made × (answer ≡ layout_size made) × (new ≡ layout_bytes made old)

abbrev pub TellsLayout : List ℕ → ℕ → ℕ → List ℕ → List ℕ → Type 0
TellsLayout bytes number answer old new = TellsLayoutAt bytes (layout_at number) answer old new

-- ---- faults
-- what is told of a file is copied, or there is no fault to tell of
abbrev pub GivesFault : Option ToldFault → ℕ → List ℕ → List ℕ → Type 0
GivesFault None answer old new = (answer ≡ NONE) × (new ≡ old)
GivesFault (Some told) answer old new = (answer ≡ length told.text.items) × (new ≡ written told.text.items old)

-- what XML can't say of a map is copied; nothing is claimed of the way that is told
abbrev pub TellsTmxFault : ℕ → List ℕ → List ℕ → Type 0
TellsTmxFault answer old new = (told : Result (Option (Vec ℕ Global)) FileFault) × (answer ≡ made_size told) × (new ≡ made_bytes told old)

-- what `map_fault` tells of the bytes of a file, or there was no memory for it
abbrev pub TellsMapFault : List ℕ → ℕ → List ℕ → List ℕ → Type 0
TellsMapFault bytes answer old new =
    ((told : Option ToldFault) × TellsFault bytes told × GivesFault told answer old new) ⊎ ((answer ≡ NO_MEMORY) × (new ≡ old))

-- ---- tilesets
-- what is read of the file of a tileset is told, and copied
abbrev pub TellsTileset : List ℕ → ℕ → List ℕ → List ℕ → Type 0
TellsTileset bytes answer old new =
    (made : Result (Option (Vec ℕ Global)) FileFault) × HasTileset bytes made × (answer ≡ made_size made) × (new ≡ made_bytes made old)

abbrev pub GivesTold : Option (Vec ℕ Global) → ℕ → List ℕ → List ℕ → Type 0
GivesTold None answer old new = (answer ≡ NONE) × (new ≡ old)
GivesTold (Some told) answer old new = (answer ≡ length told.items) × (new ≡ written told.items old)

-- what `tileset_fault` tells of the bytes of a file, or there was no memory for it
abbrev pub TellsTilesetFault : List ℕ → ℕ → List ℕ → List ℕ → Type 0
TellsTilesetFault bytes answer old new =
    ((told : Option (Vec ℕ Global)) × TellsTold bytes told × GivesTold told answer old new) ⊎ ((answer ≡ NO_MEMORY) × (new ≡ old))
