-- A property's type and value, as a line gives them.
use Rattle.std.specs.Prelude.{ℕ, pos, List, codes}
use Rattle.map_model.specs.declared.parts.PropValue.{PropValue}
use Rattle.map_model.specs.declared.parts.PropValue.TheVariants as values
use Rattle.session.specs.declared.typed_value.TypedValue.{TypedValue}
use Rattle.session.specs.declared.typed_value.TypedValue.TheVariants.{String, File, Int, Bool, Color, Object}

-- the type's name
abbrev pub type_name : TypedValue → List ℕ
type_name (String text) = codes "string"
type_name (File file) = codes "file"
type_name (Int number) = codes "int"
type_name (Bool truth) = codes "bool"
type_name (Color color) = codes "color"
type_name (Object id) = codes "object"

-- the value: a whole number of an int and an object, a truth value of a bool, and of others a text
abbrev pub property_value : TypedValue → PropValue
property_value (String text) = values.Text text
property_value (File file) = values.Text file
property_value (Int number) = values.Whole number
property_value (Bool truth) = values.Truth truth
property_value (Color color) = values.Text color
property_value (Object id) = values.Whole (pos id)
