-- Notes of a map and of its layers: heads, each of which changes places with the one that its owner has.
use Rattle.std.specs.Prelude.{List, [], ◌∷◌, reverse, Option, Some, None, option_map}
use Rattle.map_model.specs.Document.{DocumentParts}
use Rattle.map_model.specs.Heads.{head_of_map, layer_head_with_id, map_head}
use Rattle.map_model.specs.Lens.{put}
use Rattle.command_api.specs.Swap.{FitsBack}
use Rattle.layer_commands.specs.declared.notes.Note.{Note}
use Rattle.layer_commands.specs.declared.notes.Note.TheVariants.{Map, Layer}

-- ---- one note
-- the document in which the owner has this head
abbrev pub with_note : Option Note → DocumentParts → DocumentParts
with_note None d = d
with_note (Some (Map head)) d = put head_of_map head d
with_note (Some (Layer id head)) d = put (layer_head_with_id id) head d

-- the head that the owner has
abbrev pub own_note : Option Note → DocumentParts → Option Note
own_note None d = None
own_note (Some (Map head)) d = Some (Map (map_head d.map))
own_note (Some (Layer id head)) d = option_map (Layer id) ((layer_head_with_id id).get d)

-- the owner is there, and the maps on both sides are well formed
abbrev pub FitsNote : Option Note → DocumentParts → Type 0
FitsNote None d = Unit {0}
FitsNote (Some (Map head)) d = FitsBack head_of_map head d
FitsNote (Some (Layer id head)) d = FitsBack (layer_head_with_id id) head d

-- ---- one after another
abbrev pub with_notes : List (Option Note) → DocumentParts → DocumentParts
with_notes [] d = d
with_notes (n ∷ ns) d = with_notes ns (with_note n d)

abbrev pub own_notes : List (Option Note) → DocumentParts → List (Option Note)
own_notes [] d = []
own_notes (n ∷ ns) d = own_note n d ∷ own_notes ns (with_note n d)

abbrev pub FitNotes : List (Option Note) → DocumentParts → Type 0
FitNotes [] d = Unit {0}
FitNotes (n ∷ ns) d = FitsNote n d × FitNotes ns (with_note n d)

-- the heads that they give back: the last first, since what was done last is undone first
abbrev pub notes_back : List (Option Note) → DocumentParts → List (Option Note)
notes_back ns d = reverse (own_notes ns d)
