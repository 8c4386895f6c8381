-- What is loaded from a store below and stored to it, if that is honest.
use Rattle.std.specs.Prelude.{◌≡◌, ◌⊎◌, ◌≤◌, ◌<◌, ℕ, List, [], ◌∷◌, length, Bool, true, false, IsTrue, Option, Result, Ok, Err, Some, None, Vec}
use Rattle.std.specs.Global.{Global}
use Rattle.std.specs.FinMap.{get, insert}
use Rattle.map_store.specs.Asking.{Asked, loading, storing}
use Rattle.map_store.specs.Files.{Files, StoreParts, HasFailed, SameOthers}
use Rattle.map_store.specs.Storing.{Loads}
use Rattle.map_layout.specs.declared.text.LaidText.{LaidText}
use Rattle.refusals.specs.declared.store_fault.StoreFault.{StoreFault}
use Rattle.refusals.specs.declared.store_fault.StoreFault.TheVariants.{Missing, Device, Memory}
use Rattle.tiled_files.specs.Faults.{is_memory, is_refusal}
use Rattle.tiled_files.specs.Kinds.{kind_of}
use Rattle.tiled_files.specs.Opening.{Opens}
use Rattle.tiled_files.specs.Saving.{Saves}
use Rattle.tiled_files.specs.declared.fault.FileFault.{FileFault}
use Rattle.tiled_files.specs.declared.fault.FileFault.TheVariants.{Aside}
use Rattle.tiled_files.specs.declared.kind.Kind.{Kind}
use Rattle.tiled_files.specs.declared.kind.Kind.TheVariants.{Json, Tmx}
use Rattle.tiled_maps.specs.declared.fault.Fault.TheVariants as fault
use Rattle.tiled_maps.specs.declared.text.TheConstants.{LONGEST}
use Rattle.tiled_maps.specs.Texts.{PutsBack, text_or}

-- a text of its own is not too long
abbrev pub IsShort : Option (Vec ℕ Global) → Type 0
IsShort None = Unit {0}
IsShort (Some text) = length text.items ≤ LONGEST

-- what is given for a file: its text as it is opened, or the file itself if it is neither JSON nor XML
abbrev pub GivesFor : List ℕ → List ℕ → Type 0
GivesFor file text =
    ((own : Option (Vec ℕ Global)) × (text ≡ text_or file own) × Opens file (Ok own) × IsShort own)
    ⊎ ((text ≡ file) × Opens file (Err (Aside fault.NotJson)))

-- what is given for a file that has such a text of its own, or none
abbrev pub Gives : List ℕ → Option (Vec ℕ Global) → Type 0
Gives file None = GivesFor file file
Gives file (Some text) = GivesFor file text.items

-- the file is not opened for such a fault, or its text would be too long
abbrev pub IsRefused : List ℕ → Type 0
IsRefused file = ((why : FileFault) × (is_refusal why ≡ true) × Opens file (Err why))
    ⊎ ((text : Vec ℕ Global) × Opens file (Ok (Some text)) × (LONGEST < length text.items))

-- loading: what is given for the file, or there is none of that name, or the store below has failed or the file is refused; the
-- files stay
abbrev pub LoadsFrom : List ℕ → StoreParts → Result (Vec ℕ Global) StoreFault → StoreParts → Type 0
LoadsFrom name old (Ok text) new = ((file : List ℕ) × (get old.files name ≡ Some file) × GivesFor file text.items) × (new.files ≡ old.files)
LoadsFrom name old (Err Missing) new = (get old.files name ≡ None) × (new.files ≡ old.files)
LoadsFrom name old (Err Device) new =
    (HasFailed old new ⊎ ((file : List ℕ) × (get old.files name ≡ Some file) × IsRefused file)) × (new.files ≡ old.files)
LoadsFrom name old (Err Memory) new = new.files ≡ old.files

-- ---- the source of a save
-- the bytes of the file that was read; none, if it was not
abbrev pub source_in : Result (Vec ℕ Global) StoreFault → List ℕ
source_in (Ok file) = file.items
source_in (Err fault) = []

-- the source of this name, as the store that is asked for it has answered
abbrev pub IsSourceOf : List ℕ → StoreParts → List ℕ → Type 0
IsSourceOf name old source =
    (answer : Result (Vec ℕ Global) StoreFault) × (source ≡ source_in answer) × (IsTrue old.honest → (new : Files) × Loads name old.files answer new)

-- ---- what is put
-- the text in which what was set aside is put back, as a file of a kind, by the source
abbrev pub PutsLike : Kind → List ℕ → List ℕ → List ℕ → Type 0
PutsLike kind source bytes file = (laid : LaidText) × (file ≡ laid.text.items) × Saves kind bytes source (Ok laid) × (length file ≤ LONGEST)

-- that text as it is printed; or the text itself, if it is no JSON
abbrev pub PutsPlain : List ℕ → List ℕ → Type 0
PutsPlain bytes file =
    ((own : Option (Vec ℕ Global)) × (file ≡ text_or bytes own) × PutsBack bytes (Ok own) × IsShort own) ⊎ ((file ≡ bytes) × PutsBack bytes (Err fault.NotJson))

-- What is put for a text as a file of a kind. As JSON, laid out as the source is; without memory for that, or if it would be too long, as
-- without a source; then as it is printed. As XML, by the source.
abbrev pub PutsAs : Kind → List ℕ → List ℕ → List ℕ → Type 0
PutsAs Json source bytes file = PutsLike Json source bytes file ⊎ (PutsLike Json [] bytes file ⊎ PutsPlain bytes file)
PutsAs Tmx source bytes file = PutsLike Tmx source bytes file

-- what is put for a text under a name: as a file of the kind of its source; without a source, of the kind of the name
abbrev pub PutsFor : List ℕ → List ℕ → List ℕ → List ℕ → Type 0
PutsFor name source bytes file = PutsAs (kind_of name source) source bytes file

-- what a store puts for a text, if it sets maps aside; else the text as it is
abbrev pub PutsBy : Bool → List ℕ → List ℕ → List ℕ → List ℕ → Type 0
PutsBy false name source bytes file = file ≡ bytes
PutsBy true name source bytes file = PutsFor name source bytes file

-- what was set aside in a text is not put back as JSON: the text would nest too deep, or be too long
abbrev pub IsNotPutJson : List ℕ → Type 0
IsNotPutJson bytes = PutsBack bytes (Err fault.TooDeep) ⊎ ((text : Vec ℕ Global) × PutsBack bytes (Ok (Some text)) × (LONGEST < length text.items))

-- it is not put back as a file of a kind; as XML also if it has none
abbrev pub IsNotPutAs : Kind → List ℕ → List ℕ → Type 0
IsNotPutAs Json source bytes = IsNotPutJson bytes
IsNotPutAs Tmx source bytes = ((why : FileFault) × (is_memory why ≡ false) × Saves Tmx bytes source (Err why))
    ⊎ ((laid : LaidText) × Saves Tmx bytes source (Ok laid) × (LONGEST < length laid.text.items))

abbrev pub IsNotPut : List ℕ → List ℕ → List ℕ → Type 0
IsNotPut name source bytes = IsNotPutAs (kind_of name source) source bytes

-- Storing: the name has what is put for the text, by the source that was read. After a failure of the store below that one file may
-- hold anything or be absent.
abbrev pub StoresTo : StoreParts → List ℕ → List ℕ → StoreParts → Result (Unit {0}) StoreFault → StoreParts → Type 0
StoresTo sources name bytes old (Ok done) new =
    (source : List ℕ) × (file : List ℕ) × IsSourceOf name sources source × PutsFor name source bytes file × (new.files ≡ insert old.files name file)
StoresTo sources name bytes old (Err Missing) new = ⊥
StoresTo sources name bytes old (Err Device) new = (HasFailed old new × SameOthers name old.files new.files)
    ⊎ ((source : List ℕ) × IsSourceOf name sources source × IsNotPut name source bytes × (new.files ≡ old.files))
StoresTo sources name bytes old (Err Memory) new = new.files ≡ old.files

-- the store below was asked once to store the file of this name, or not at all
abbrev pub AtMostOnce : List ℕ → List Asked → List Asked → Type 0
AtMostOnce name old new = (new ≡ storing name ∷ old) ⊎ (new ≡ old)

-- the store of the sources was asked once to load it, if maps are set aside; else not at all
abbrev pub AsksForSource : Bool → List ℕ → List Asked → List Asked → Type 0
AsksForSource false name old new = new ≡ old
AsksForSource true name old new = new ≡ loading name ∷ old

-- it was asked for the source, and that is this one
abbrev pub IsSourceBy : Bool → List ℕ → StoreParts → List ℕ → Type 0
IsSourceBy false name old source = Unit {0}
IsSourceBy true name old source = IsSourceOf name old source
