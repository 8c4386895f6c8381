-- What replies tell.
use Rattle.std.specs.Prelude.{ℕ, ◌+◌, ◌-◌, ◌*◌, List, ◌∷◌, map, length, ℤ, pos, negsuc, Bool, true, false, ◌&&◌, nat_eq, nat_lt, slice_get, if◌then◌else◌}
use Rattle.std.specs.Prelude.{Option, None, Some, Result, Ok, Err}
use Rattle.std.specs.List.{join_with_byte}
use Rattle.std.specs.Option.{ok_or, option_map}
use Rattle.std.specs.Str.{bytes_eq}
use Rattle.map_model.specs.declared.parts.MapParts.{MapParts}
use Rattle.map_model.specs.Lookups.{layer_of}
use Rattle.map_model.specs.Tilesets.{tileset_of}
use Rattle.refusals.specs.declared.edit_fault.EditFault.{EditFault}
use Rattle.refusals.specs.declared.edit_fault.EditFault.TheVariants.{OutsideTheMap}
use Rattle.map_model.specs.Refusing.{◌>>=◌}
use Rattle.edits.specs.Refusals.{tiles_or_fault}
use Rattle.undo_stack.specs.History.{History, count, is_clean}
use Rattle.undo_stack.specs.Moving.{Answer}
use Rattle.undo_group.specs.Groups.{GroupParts, OpenDocument}
use Rattle.session.specs.declared.reply.LocalTile.{LocalTile}
use Rattle.refusals.specs.Layers.{out_of_range, refusal_of_edit, refusal_of_stack}
use Rattle.session.specs.declared.reply.Reply.{Reply}
use Rattle.session.specs.declared.reply.Reply.TheVariants as replies
use Rattle.tile_id.specs.Gid.{base_of}

-- how a history stands: its position, its count, whether it is clean, and its open levels
abbrev pub state_reply : History → Reply
state_reply h = replies.State h.position (count h) (is_clean h) (length h.levels)

-- how the active one stands
abbrev pub status_reply : Option History → Reply
status_reply None = replies.NoDocument
status_reply (Some h) = state_reply h

-- the reply to a call of the stack that may be refused
abbrev pub call_reply : Answer → History → Reply
call_reply (Ok done) n = state_reply n
call_reply (Err fault) n = replies.Refused (refusal_of_stack fault)

-- the text for lists of a step, where there is one
abbrev pub step_text_reply : Option (List ℕ) → Reply
step_text_reply None = replies.Refused out_of_range
step_text_reply (Some text) = replies.Text text

-- ---- the open documents
-- whether this is the name of the active document
abbrev pub is_active : Option (List ℕ) → List ℕ → Bool
is_active None name = false
is_active (Some active) name = bytes_eq active name

-- with a star in front, or without
abbrev pub starred : Bool → List ℕ → List ℕ
starred true name = 42 ∷ name
starred false name = name

-- a name as it is listed: with a star in front where it is the active one's
abbrev pub listed : Option (List ℕ) → List ℕ → List ℕ
listed active name = starred (is_active active name) name

-- the names of the open documents, in order of opening, with a space between each two
abbrev pub documents_text : GroupParts → List ℕ
documents_text g = join_with_byte 32 (map (λ (d : OpenDocument). listed g.active d.name) g.documents)

-- ---- a look at a cell
-- the value of a cell, where these are the values of its layer; none left of the map or above it, nor behind its last column or row
abbrev pub cell_value : MapParts → List ℕ → ℤ → ℤ → Option ℕ
cell_value m tiles (pos x) (pos y) = if nat_lt x m.width && nat_lt y m.height then slice_get tiles (y * m.width + x) else None
cell_value m tiles (pos x) (negsuc y) = None
cell_value m tiles (negsuc x) y = None

-- that value, or why there is none
abbrev pub value_at : MapParts → ℕ → ℤ → ℤ → Result ℕ EditFault
value_at m layer x y = do
  tiles ← tiles_or_fault (layer_of m layer)
  ok_or (cell_value m tiles x y) OutsideTheMap

-- the tile that a value names: the first id of its tileset, and how far its base is above that
abbrev pub local_tile : MapParts → ℕ → Option LocalTile
local_tile m value = option_map (λ t. record { first_id = t.first_id; local_id = base_of value - t.first_id }) (tileset_of m value)

-- an empty cell, or a value with the tile that it names, where a tileset has it
abbrev pub value_reply : MapParts → Result ℕ EditFault → Reply
value_reply m (Err fault) = replies.Refused (refusal_of_edit fault)
value_reply m (Ok value) = if nat_eq value 0 then replies.EmptyTile else replies.Tile value (local_tile m value)

abbrev pub tile_reply : MapParts → ℕ → ℤ → ℤ → Reply
tile_reply m layer x y = value_reply m (value_at m layer x y)
