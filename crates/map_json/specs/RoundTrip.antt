-- A map that is written, and read again.
use Rattle.std.specs.Prelude.{◌≡◌, ◌⊎◌, ℕ, List, Result, Ok, Err}
use Rattle.map_model.specs.declared.parts.MapParts.{MapParts}
use Rattle.map_values.specs.declared.fault.MapFault.{MapFault}
use Rattle.map_values.specs.declared.fault.MapFault.TheVariants.{Memory}
use Rattle.map_json.specs.Maps.{IsTreeOf, Says}
use Rattle.map_json.specs.Trees.{tree_of, text_of}

-- bytes that have the map's tree say the map, and nothing else; or memory ran out
abbrev pub WrittenIsRead : MapParts → Type 0
WrittenIsRead m = (bytes : List ℕ) (answer : Result MapParts MapFault) → IsTreeOf bytes (tree_of m) → Says bytes answer
    → (answer ≡ Ok m) ⊎ (answer ≡ Err Memory)

-- what is saved, then opened, is the same map: its text says the map, and nothing else; or memory ran out
abbrev pub SavedIsOpened : MapParts → Type 0
SavedIsOpened m = (answer : Result MapParts MapFault) → Says (text_of m) answer → (answer ≡ Ok m) ⊎ (answer ≡ Err Memory)
