-- Which texts are which lines for all edits.
use Rattle.std.specs.Prelude.{ℕ, Bool, true, false, not, nat_lt, List, [], ◌∷◌, length, Result, Err, codes}
use Rattle.std.specs.Prelude.{if◌then◌else◌}
use Rattle.std.specs.Str.{is_utf8}
use Rattle.map_model.specs.declared.parts.MoreLayerKind.TheVariants.{Group, Image}
use Rattle.session.specs.declared.limits.TheConstants.{MAX_LINE}
use Rattle.session.specs.declared.more_line.MoreLine.{MoreLine}
use Rattle.session.specs.declared.more_line.MoreLine.TheVariants.{SetMember, PutMembers, RemoveMember, AddLayer, PutObject, PutLayer}
use Rattle.session.specs.declared.more_line.MoreLine.TheVariants.{ReparentObject, ReparentLayer, PutProperty, TakeProperty, PutTileset, NumberTileset, Extend}
use Rattle.refusals.specs.declared.line_fault.LineFault.{LineFault}
use Rattle.refusals.specs.declared.line_fault.LineFault.TheVariants.{TooLong, NotUtf8, UnknownCommand, BadWord}
use Rattle.session.specs.Grammar.{Number, Key, OwnerName, OwnerOfMembers, LineForm, Ends, Text, Json, Field, choose, read}
use Rattle.session.specs.Words.{words}

-- a line that may follow the step before it has one form for both
abbrev pub set_member_form : Bool → LineForm MoreLine
set_member_form follows = Field OwnerOfMembers λ owner. Field Key λ name. Json λ json. SetMember owner name json follows

abbrev pub put_members_form : Bool → LineForm MoreLine
put_members_form follows = Field OwnerOfMembers λ owner. Json λ json. PutMembers owner json follows

abbrev pub remove_member_form : LineForm MoreLine
remove_member_form = Field OwnerOfMembers λ owner. Field Key λ name. Ends (RemoveMember owner name)

-- what is done with own members
abbrev pub member_lines : List (List ℕ × LineForm MoreLine)
member_lines =
    (codes "set", set_member_form false)
    ∷ (codes "set+", set_member_form true)
    ∷ (codes "put", put_members_form false)
    ∷ (codes "put+", put_members_form true)
    ∷ (codes "remove", remove_member_form)
    ∷ []

-- the further kinds of layers, each with the layer's name
abbrev pub more_layer_kinds : List (List ℕ × LineForm MoreLine)
more_layer_kinds = (codes "group", Text (AddLayer Group)) ∷ (codes "image", Text (AddLayer Image)) ∷ []

-- the layer, the group or 0 for none, and the place there
abbrev pub reparent_layer_form : LineForm MoreLine
reparent_layer_form =
    Field Number λ layer. Field Number λ group. Field Number λ place. Ends (ReparentLayer layer group place)

-- the group or 0 for none, and the place there
abbrev pub put_layer_form : LineForm MoreLine
put_layer_form = Field Number λ group. Field Number λ place. Json (PutLayer group place)

-- what else is done with a layer
abbrev pub more_layer_lines : List (List ℕ × LineForm MoreLine)
more_layer_lines =
    (codes "add", choose more_layer_kinds BadWord) ∷ (codes "into", reparent_layer_form) ∷ (codes "put", put_layer_form) ∷ []

abbrev pub put_object_form : LineForm MoreLine
put_object_form = Field Number λ layer. Json (PutObject layer)

abbrev pub reparent_object_form : LineForm MoreLine
reparent_object_form =
    Field Number λ object. Field Number λ layer. Field Number λ place. Ends (ReparentObject object layer place)

-- what else is done with an object
abbrev pub more_object_lines : List (List ℕ × LineForm MoreLine)
more_object_lines = (codes "put", put_object_form) ∷ (codes "into", reparent_object_form) ∷ []

abbrev pub take_property_form : LineForm MoreLine
take_property_form = Field OwnerName λ owner. Json (TakeProperty owner)

abbrev pub put_property_form : LineForm MoreLine
put_property_form = Field OwnerName λ owner. Json (PutProperty owner)

-- what else is done with a property
abbrev pub more_property_lines : List (List ℕ × LineForm MoreLine)
more_property_lines = (codes "take", take_property_form) ∷ (codes "put", put_property_form) ∷ []

abbrev pub put_tileset_form : LineForm MoreLine
put_tileset_form = Json PutTileset

abbrev pub number_tileset_form : LineForm MoreLine
number_tileset_form = Field Number λ first_id. Field Number λ number. Ends (NumberTileset first_id number)

-- what else is done with a tileset
abbrev pub more_tileset_lines : List (List ℕ × LineForm MoreLine)
more_tileset_lines = (codes "put", put_tileset_form) ∷ (codes "number", number_tileset_form) ∷ []

abbrev pub extend_form : LineForm MoreLine
extend_form =
    Field Number λ left. Field Number λ top. Field Number λ right. Field Number λ bottom.
    Ends (Extend left top right bottom)

-- the commands of all these lines
abbrev pub more_commands : List (List ℕ × LineForm MoreLine)
more_commands =
    (codes "member", choose member_lines BadWord)
    ∷ (codes "layer", choose more_layer_lines BadWord)
    ∷ (codes "object", choose more_object_lines BadWord)
    ∷ (codes "prop", choose more_property_lines BadWord)
    ∷ (codes "tileset", choose more_tileset_lines BadWord)
    ∷ (codes "extend", extend_form)
    ∷ []

-- the form of all these lines
abbrev pub more_form : LineForm MoreLine
more_form = choose more_commands UnknownCommand

-- the line for all edits that a text is, or its fault
unfoldable pub more_line_of : List ℕ → Result MoreLine LineFault
more_line_of bytes =
    if nat_lt MAX_LINE (length bytes) then Err TooLong
    else if not (is_utf8 bytes) then Err NotUtf8
    else read more_form (words bytes)
