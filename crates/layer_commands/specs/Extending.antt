-- The document after a resizing by which a map gets columns and rows at its left and top: where it was infinite, all of it stays where
-- it was on the plane.
use Rattle.std.specs.Prelude.{ℕ, ◌*◌, pos, List, [], ◌∷◌, Option, Some, Result, Ok, Err, if◌then◌else◌}
use Rattle.std.specs.List.{flat_map}
use Rattle.std.specs.Option.{option_map_or}
use Rattle.infinite_maps.specs.declared.margin.Margin.{Margin}
use Rattle.infinite_maps.specs.Margins.{has_note, layer_with, map_with}
use Rattle.map_model.specs.declared.heads.LayerHead.{LayerHead}
use Rattle.map_model.specs.declared.heads.MapHead.{MapHead}
use Rattle.map_model.specs.declared.parts.Layer.{Layer}
use Rattle.map_model.specs.declared.parts.MapParts.{MapParts}
use Rattle.map_model.specs.Bodies.{tiles_or_none}
use Rattle.map_model.specs.Document.{DocumentParts, with_map}
use Rattle.map_model.specs.Groups.{all_drawn}
use Rattle.map_model.specs.Heads.{layer_head, map_head}
use Rattle.map_model.specs.Lookups.{with_layer}
use Rattle.edits.specs.Resizing.{after_resize}
use Rattle.refusals.specs.declared.edit_fault.EditFault.{EditFault}
use Rattle.layer_commands.specs.declared.notes.Note.{Note}
use Rattle.layer_commands.specs.declared.notes.Note.TheVariants as notes

-- ---- the notes
-- so many columns and rows, and the pixels that they are wide and high
abbrev pub margin_of : MapParts → ℕ → ℕ → Margin
margin_of m columns rows = record { columns = columns; rows = rows; right = columns * m.tile_width; down = rows * m.tile_height }

-- a layer with its note moved
abbrev pub layer_moved : Margin → Layer → Layer
layer_moved by l = record l { kept = layer_with by l.kept }

-- the id of a tile layer; another layer has none here
abbrev pub tile_ids : ℕ × Layer → List ℕ
tile_ids d = option_map_or (λ cells. d.1.id ∷ []) (tiles_or_none d.1.body) []

-- the map with the notes of the layers with these ids moved
abbrev pub layers_moved : Margin → List ℕ → MapParts → MapParts
layers_moved by [] m = m
layers_moved by (id ∷ ids) m = layers_moved by ids (with_layer id (layer_moved by) m)

-- the map, where it has the note of an infinite one, with that note moved, and the notes of its tile layers
abbrev pub notes_moved : Margin → MapParts → MapParts
notes_moved by m =
    if has_note m.kept then layers_moved by (flat_map tile_ids (all_drawn m.layers)) (record m { kept = map_with by m.kept }) else m

-- ---- the edit
abbrev pub with_margin : Margin → Result DocumentParts EditFault → Result DocumentParts EditFault
with_margin by (Ok d) = Ok (with_map (notes_moved by) d)
with_margin by (Err fault) = Err fault

-- the document after a resizing to this width and height by which it gets so many columns and rows at its left and top
abbrev pub after_margin : DocumentParts → ℕ → ℕ → ℕ → ℕ → Result DocumentParts EditFault
after_margin d width height columns rows = with_margin (margin_of d.map columns rows) (after_resize d width height (pos columns) (pos rows))

-- ---- the heads that do it
abbrev pub moved_map_head : Margin → MapHead → MapHead
moved_map_head by h = record h { kept = map_with by h.kept }

abbrev pub moved_head : Margin → LayerHead → LayerHead
moved_head by h = record h { kept = layer_with by h.kept }

abbrev pub layer_notes : Margin → ℕ × Layer → List (Option Note)
layer_notes by d = option_map_or (λ cells. Some (notes.Layer d.1.id (moved_head by (layer_head d.1))) ∷ []) (tiles_or_none d.1.body) []

abbrev pub notes_of : Margin → MapParts → List (Option Note)
notes_of by m =
    if has_note m.kept then Some (notes.Map (moved_map_head by (map_head m))) ∷ flat_map (layer_notes by) (all_drawn m.layers) else []
