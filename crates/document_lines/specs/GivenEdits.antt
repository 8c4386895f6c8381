-- The document after an edit that puts in what a JSON text says, as a file would say it, or that takes out what one names; or why
-- the line is refused.
use Rattle.std.specs.Prelude.{ℕ, List, Bool, ◌&&◌, not, is_some, Option, Result, Ok, Err}
use Rattle.map_model.specs.declared.owner.Owner.{Owner}
use Rattle.map_model.specs.declared.parts.MapParts.{MapParts}
use Rattle.map_model.specs.Document.{DocumentParts}
use Rattle.map_model.specs.Lookups.{layer_of}
use Rattle.map_model.specs.Objects.{object_place}
use Rattle.fractions.specs.declared.lines.Fractions.{Fractions}
use Rattle.map_json.specs.declared.given.GivenObject.{GivenObject}
use Rattle.map_json.specs.Given.{given_layer_at, given_object_at, given_property_at, given_text_at, given_tileset_at}
use Rattle.edits.specs.LayerEdits.{after_put_layer, siblings_or_fault}
use Rattle.edits.specs.ObjectEdits.{after_put_object, objects_or_fault}
use Rattle.edits.specs.PropertyEdits.{after_remove_property, owner_or_fault}
use Rattle.edits.specs.TilesetEdits.{after_put_tileset}
use Rattle.property_commands.specs.PutEdits.{after_put_property}
use Rattle.member_commands.specs.Edits.{◌>>=◌, check, said}
use Rattle.refusals.specs.declared.edit_fault.EditFault.{EditFault}
use Rattle.refusals.specs.declared.map_refusal.MapRefusal.TheVariants.{IdUsedTwice}
use Rattle.refusals.specs.declared.more_fault.MoreFault.{MoreFault}
use Rattle.refusals.specs.declared.more_fault.MoreFault.TheVariants as faults

-- what an edit makes, or why it is refused
abbrev pub made : {A : Type 0} → Result A EditFault → Result A MoreFault
made (Ok x) = Ok x
made (Err fault) = Err (faults.Edit fault)

-- whether an object says the id of one that is there
abbrev pub is_id_used : MapParts → GivenObject → Bool
is_id_used m given = given.has_id && is_some (object_place m given.object.id)

-- an object goes last in its layer; where it says no id, it gets the next one
abbrev pub after_object_text : Fractions → DocumentParts → ℕ → List ℕ → Result DocumentParts MoreFault
after_object_text fractions d layer json =
    made (objects_or_fault (layer_of d.map layer)) >>= λ objects.
    said (given_object_at fractions d.map json) >>= λ given.
    check (not (is_id_used d.map given)) (faults.Map IdUsedTwice) >>= λ _.
    made (after_put_object d layer given.has_id given.object)

-- a layer, with all that stand in it, goes to a place among the layers of a parent
abbrev pub after_layer_text : Fractions → DocumentParts → Option ℕ → ℕ → List ℕ → Result DocumentParts MoreFault
after_layer_text fractions d parent at json =
    made (siblings_or_fault d.map parent) >>= λ layers.
    said (given_layer_at fractions d.map json) >>= λ layer.
    made (after_put_layer d parent at layer)

-- a tileset goes last
abbrev pub after_tileset_text : Fractions → DocumentParts → List ℕ → Result DocumentParts MoreFault
after_tileset_text fractions d json =
    said (given_tileset_at fractions json) >>= λ tileset.
    made (after_put_tileset d tileset)

-- a property takes the place of the one with its name, or goes last
abbrev pub after_property_text : Fractions → DocumentParts → Owner → List ℕ → Result DocumentParts MoreFault
after_property_text fractions d owner json =
    made (owner_or_fault d.map owner) >>= λ place.
    said (given_property_at fractions json) >>= λ property.
    made (after_put_property d owner property)

-- the property whose name a JSON text says is taken out
abbrev pub after_take_property : Fractions → DocumentParts → Owner → List ℕ → Result DocumentParts MoreFault
after_take_property fractions d owner json =
    made (owner_or_fault d.map owner) >>= λ place.
    said (given_text_at fractions json) >>= λ name.
    made (after_remove_property d owner name)
