-- What is told of the bytes of a file.
use Rattle.std.specs.Prelude.{◌≡◌, ◌⊎◌, ℕ, List, Ok, Err, Option, Some, None}
use Rattle.map_json.specs.Maps.{Says}
use Rattle.map_model.specs.declared.parts.MapParts.{MapParts}
use Rattle.map_values.specs.declared.fault.MapFault.TheVariants.{Refused}
use Rattle.refusals.specs.Layers.{store_failed}
use Rattle.refusals.specs.declared.map_refusal.MapRefusal.{MapRefusal}
use Rattle.refusals.specs.declared.refusal.Refusal.TheVariants.{Map}
use Rattle.tiled_store.specs.Stored.{GivesFor, IsRefused}
use Rattle.map_faults.specs.declared.faults.ToldFault.{ToldFault}

-- what is told of a text that is read: nothing where it is a map, else the first fault
abbrev pub TellsOfText : List ℕ → Option ToldFault → Type 0
TellsOfText text None = (m : MapParts) × Says text (Ok m)
TellsOfText text (Some told) = (refusal : MapRefusal) × (told.refusal ≡ Map refusal) × Says text (Err (Refused refusal))

-- what is told of a file that no text is given for: that the store has failed
abbrev pub TellsNotGiven : Option ToldFault → Type 0
TellsNotGiven None = ⊥
TellsNotGiven (Some told) = told.refusal ≡ store_failed

-- what is told of a file: what is told of the text that a store gives for it, as one that sets maps aside; or that it refuses the file
abbrev pub TellsFault : List ℕ → Option ToldFault → Type 0
TellsFault file told = ((text : List ℕ) × GivesFor file text × TellsOfText text told) ⊎ (IsRefused file × TellsNotGiven told)
