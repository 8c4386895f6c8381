-- What is told of the bytes of a file as a tileset.
use Rattle.std.specs.Prelude.{◌≡◌, ℕ, List, false, Ok, Err, Option, Some, None, Vec}
use Rattle.std.specs.Global.{Global}
use Rattle.tiled_files.specs.Faults.{is_memory}
use Rattle.tiled_files.specs.Tilesets.{HasTileset}
use Rattle.tiled_files.specs.declared.fault.FileFault.{FileFault}

-- nothing where it is read; something where it is refused
abbrev pub TellsTilesetFault : List ℕ → Option (Vec ℕ Global) → Type 0
TellsTilesetFault bytes None = (text : Option (Vec ℕ Global)) × HasTileset bytes (Ok text)
TellsTilesetFault bytes (Some told) = (fault : FileFault) × (is_memory fault ≡ false) × HasTileset bytes (Err fault)
