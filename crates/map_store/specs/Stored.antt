-- Files that are stored in a map.
use Rattle.std.specs.Prelude.{ℕ, map, String, Vec}
use Rattle.std.specs.String.{string_bytes}
use Rattle.std.specs.Global.{Global}
use Rattle.std.specs.BTreeMap.{BTreeMap}
use Rattle.std.specs.FinMap.{from_entries}
use Rattle.map_store.specs.Files.{Files}

-- each name with the bytes that stand at it
abbrev pub files_of : BTreeMap (String Global) (Vec ℕ Global) → Files
files_of m = from_entries (map (λ pair. (string_bytes pair.0, pair.1.items)) m.entries)
