-- What is told of an edit covers its change: one lemma for each kind of edit.
use Rattle.std.proofs.Common.{◌≡◌, ◌⊎◌, inl, inr, ℕ, ◌+◌, ◌-◌, ◌*◌, List, length, true≢false, Option, Some, None, refl, ap, ◌∙◌}
use Rattle.std.specs.List.{insert, remove}
use Rattle.map_model.specs.declared.heads.LayerHead.{LayerHead}
use Rattle.map_model.specs.declared.heads.MapHead.{MapHead}
use Rattle.map_model.specs.declared.heads.ObjectHead.{ObjectHead}
use Rattle.map_model.specs.declared.heads.TilesetHead.{TilesetHead}
use Rattle.map_model.specs.declared.owner.Owner.{Owner}
use Rattle.map_model.specs.declared.parts.Body.{Body}
use Rattle.map_model.specs.declared.parts.Body.TheVariants.{Objects}
use Rattle.map_model.specs.declared.parts.Layer.{Layer}
use Rattle.map_model.specs.declared.parts.Object.{Object}
use Rattle.map_model.specs.declared.place.OwnerPlace.{OwnerPlace}
use Rattle.map_model.specs.declared.place.OwnerPlace.TheVariants as places
use Rattle.map_model.specs.declared.setting.Setting.{Setting}
use Rattle.map_model.specs.Bodies.{body_with_objects, tile_at}
use Rattle.map_model.specs.Document.{DocumentParts, with_map}
use Rattle.map_model.specs.Given.{given_setting}
use Rattle.map_model.specs.Groups.{inside}
use Rattle.map_model.specs.Heads.{head, head_of_layer, head_of_map, head_with_id, layer_head_with_id, tileset_head_with_id, tileset_value}
use Rattle.map_model.specs.Lens.{Lens, found, layer_objects, name, next_object_id, of_layer, of_object, placing, placing_with_id, siblings, tilesets}
use Rattle.map_model.specs.Lens.{update_found, visible}
use Rattle.map_model.specs.Lists.{change_at, or_empty}
use Rattle.map_model.specs.Lookups.{cell_of, with_layer}
use Rattle.map_model.specs.Objects.{layer_with_objects, object_place}
use Rattle.map_model.specs.Properties.{layer_with_properties, object_with_properties}
use Rattle.map_model.specs.PropertyLenses.{properties, setting, setting_at, setting_named, setting_place}
use Rattle.map_model.specs.Slot.{Slot, layer_slot, new_layer_slot, next_slot_in, object_slot, slot_in}
use Rattle.map_model.proofs.ObjectKeeps.{group_in-objects}
use Rattle.command_api.specs.Exchange.{Exchange, change_of}
use Rattle.command_api.specs.Link.{linked}
use Rattle.command_api.specs.Move.{moved, with_some}
use Rattle.command_api.specs.Names.{Names}
use Rattle.command_api.specs.Swap.{put_held}
use Rattle.layer_commands.specs.declared.add.AddLayer.{AddLayer}
use Rattle.layer_commands.specs.declared.move_layer.MoveLayer.{MoveLayer}
use Rattle.layer_commands.specs.declared.remove.RemoveLayer.{RemoveLayer}
use Rattle.layer_commands.specs.declared.rename.RenameLayer.{RenameLayer}
use Rattle.layer_commands.specs.declared.resize.ResizeMap.{ResizeMap}
use Rattle.layer_commands.specs.declared.show.ShowLayer.{ShowLayer}
use Rattle.layer_commands.specs.Changes.{add_change, add_exchange, move_change, move_exchange, remove_change, remove_exchange, rename_change, rename_exchange}
use Rattle.layer_commands.specs.Changes.{resize_change, resize_exchange, show_change, show_exchange}
use Rattle.member_commands.specs.declared.set_head.SetHead.{SetHead}
use Rattle.member_commands.specs.declared.set_value.SetValue.{SetValue}
use Rattle.member_commands.specs.Changes.{set_head_change, set_head_exchange, set_value_change, set_value_exchange}
use Rattle.member_commands.specs.Layers.{layer_heads}
use Rattle.member_commands.specs.Maps.{map_heads}
use Rattle.member_commands.specs.Objects.{object_heads}
use Rattle.member_commands.specs.Tilesets.{tileset_heads}
use Rattle.object_commands.specs.declared.add.AddObject.{AddObject}
use Rattle.object_commands.specs.declared.place.PlaceObject.{PlaceObject}
use Rattle.object_commands.specs.declared.remove.RemoveObject.{RemoveObject}
use Rattle.object_commands.specs.declared.reparent.ReparentObject.{ReparentObject}
use Rattle.object_commands.specs.Changes.{add_object_change, add_object_exchange, place_object_change, place_object_exchange, remove_object_change}
use Rattle.object_commands.specs.Changes.{remove_object_exchange, reparent_object_change, reparent_object_exchange}
use Rattle.paint_commands.specs.declared.select.SelectCommand.{SelectCommand}
use Rattle.paint_commands.specs.Selection.{select_change, select_exchange}
use Rattle.property_commands.specs.declared.number.NumberTileset.{NumberTileset}
use Rattle.property_commands.specs.declared.put.PutKind.{PutKind}
use Rattle.property_commands.specs.declared.put.PutKind.TheVariants as put_kinds
use Rattle.property_commands.specs.declared.put.PutProperty.{PutProperty}
use Rattle.property_commands.specs.declared.remove.RemoveProperty.{RemoveProperty}
use Rattle.property_commands.specs.declared.set.SetKind.{SetKind}
use Rattle.property_commands.specs.declared.set.SetKind.TheVariants.{Replace, Add}
use Rattle.property_commands.specs.declared.set.SetProperty.{SetProperty}
use Rattle.property_commands.specs.declared.tilesets.AddTileset.{AddTileset}
use Rattle.property_commands.specs.declared.tilesets.RemoveTileset.{RemoveTileset}
use Rattle.property_commands.specs.PropertyChanges.{property_set_exchange, remove_property_change, remove_property_exchange, set_kind_exchange}
use Rattle.property_commands.specs.PropertyChanges.{held_property, property_in, put_kind_exchange, put_property_change, put_property_exchange}
use Rattle.property_commands.specs.PropertyChanges.{set_property_change}
use Rattle.property_commands.specs.Names.{set_property_names}
use Rattle.property_commands.specs.TilesetChanges.{add_tileset_change, add_tileset_exchange, number_tileset_change, number_tileset_exchange}
use Rattle.property_commands.specs.TilesetChanges.{remove_tileset_change, remove_tileset_exchange}
use Rattle.document_lines.specs.declared.differences.Differences.{Differences}
use Rattle.document_lines.specs.declared.planned.Edit.{Edit}
use Rattle.document_lines.specs.declared.planned.Edit.TheVariants as edits
use Rattle.document_lines.specs.Differing.{Covers, DifferWithin, HaveSameLayers, all_differs, layers_differ, outline_differs, selection_differs}
use Rattle.document_lines.specs.Planning.{edit_change}
use Rattle.document_lines.proofs.KeptCells.{cell_of-with_layer, layer_ids-with_layer}

-- an exchange is one call for redo and undo, so one fact serves both
pub exchange-covers : (told : Differences) (x : Exchange) → ((d : DocumentParts) → x.fits d → DifferWithin told d (x.exchanged d)) → Covers told (change_of x)
exchange-covers told x within = record { redo = λ d h. within d h.1.fits; undo = λ d h. within d h.1.fits }

-- ---- edits that leave all cells, and the selection
pub record KeepsCells (f : DocumentParts → DocumentParts) : Type 0 where
  pub selection : (d : DocumentParts) → (f d).selection ≡ d.selection
  pub layers : (d : DocumentParts) → HaveSameLayers d.map (f d).map
  pub cells : (d : DocumentParts) (id x y : ℕ) → cell_of (f d).map id x y ≡ cell_of d.map id x y

outline-covers : (x : Exchange) → KeepsCells x.exchanged → Covers outline_differs (change_of x)
outline-covers x keeps = exchange-covers outline_differs x (λ d h. record {
  outline = λ told. absurd (true≢false told);
  selection = λ told. keeps.selection d;
  layers = λ told. keeps.layers d;
  cells = λ id x y told. keeps.cells d id x y;
})

same-keeps : KeepsCells (λ d. d)
same-keeps = record { selection = λ d. refl; layers = λ d. record { width = refl; height = refl; ids = refl }; cells = λ d id x y. refl }

-- one after another
twice-keeps : (f g : DocumentParts → DocumentParts) → KeepsCells f → KeepsCells g → KeepsCells (λ d. f (g d))
twice-keeps f g fs gs = record {
  selection = λ d. fs.selection (g d) ∙ gs.selection d;
  layers = λ d. record {
    width = (fs.layers (g d)).width ∙ (gs.layers d).width;
    height = (fs.layers (g d)).height ∙ (gs.layers d).height;
    ids = (fs.layers (g d)).ids ∙ (gs.layers d).ids;
  };
  cells = λ d id x y. fs.cells (g d) id x y ∙ gs.cells d id x y;
}

-- a change of one layer
layer-keeps : (own : ℕ) (f : Layer → Layer) → ((l : Layer) → (f l).id ≡ l.id) → ((l : Layer) → inside (f l) ≡ inside l)
    → ((number : ℕ) (l : Layer) → tile_at (f l).body number ≡ tile_at l.body number) → KeepsCells (with_map (with_layer own f))
layer-keeps own f ids inner tiles = record {
  selection = λ d. refl;
  layers = λ d. record { width = refl; height = refl; ids = layer_ids-with_layer own f ids inner d.map };
  cells = λ d id x y. cell_of-with_layer own f ids inner d.map id x y (λ column row l its here. tiles (y * d.map.width + x) l);
}

-- ---- lenses, each change of which leaves all cells
abbrev KeepsCellsAt : {V : Type 0} → Lens DocumentParts V → Type 0
KeepsCellsAt {V = V} p = (f : V → V) → KeepsCells (p.update f)

name-keeps : (id : ℕ) → KeepsCellsAt (of_layer id name)
name-keeps id f = layer-keeps id (name.update f) (λ l. refl) (λ l. refl) (λ number l. refl)

visible-keeps : (id : ℕ) → KeepsCellsAt (of_layer id visible)
visible-keeps id f = layer-keeps id (visible.update f) (λ l. refl) (λ l. refl) (λ number l. refl)

layer_head-keeps : (id : ℕ) → KeepsCellsAt (layer_head_with_id id)
layer_head-keeps id f = layer-keeps id (head_of_layer.update f) (λ l. refl) (λ l. refl) (λ number l. refl)

map_head-keeps : KeepsCellsAt head_of_map
map_head-keeps f = record { selection = λ d. refl; layers = λ d. record { width = refl; height = refl; ids = refl }; cells = λ d id x y. refl }

tileset_head-keeps : (first_id : ℕ) → KeepsCellsAt (tileset_head_with_id first_id)
tileset_head-keeps first_id f =
    record { selection = λ d. refl; layers = λ d. record { width = refl; height = refl; ids = refl }; cells = λ d id x y. refl }

tileset_value-keeps : (first_id : ℕ) (name : List ℕ) → KeepsCellsAt (tileset_value first_id name)
tileset_value-keeps first_id name f =
    record { selection = λ d. refl; layers = λ d. record { width = refl; height = refl; ids = refl }; cells = λ d id x y. refl }

tile_at-objects : (g : List Object → List Object) (number : ℕ) (b : Body) → tile_at (body_with_objects g b) number ≡ tile_at b number
tile_at-objects g number (Objects os) = refl
tile_at-objects g number b = refl

layer_objects-keeps : (id : ℕ) → KeepsCellsAt (layer_objects id)
layer_objects-keeps id g = layer-keeps id (layer_with_objects g) (λ l. refl) (λ l. ap or_empty (group_in-objects g l.body))
    (λ number l. tile_at-objects g number l.body)

found-keeps-cells : {K V : Type 0} (place : DocumentParts → Option K) (p : K → Lens DocumentParts V) → ((k : K) → KeepsCellsAt (p k))
    → KeepsCellsAt (found place p)
found-keeps-cells {K = K} place p keeps f = record {
  selection = λ d. by_selection d (place d);
  layers = λ d. by_layers d (place d);
  cells = λ d id x y. by_cells d id x y (place d);
}
  where
    by_selection : (d : DocumentParts) (o : Option K) → (update_found p f d o).selection ≡ d.selection
    by_selection d None = refl
    by_selection d (Some k) = (keeps k f).selection d

    by_layers : (d : DocumentParts) (o : Option K) → HaveSameLayers d.map (update_found p f d o).map
    by_layers d None = same-keeps.layers d
    by_layers d (Some k) = (keeps k f).layers d

    by_cells : (d : DocumentParts) (id x y : ℕ) (o : Option K) → cell_of (update_found p f d o).map id x y ≡ cell_of d.map id x y
    by_cells d id x y None = refl
    by_cells d id x y (Some k) = (keeps k f).cells d id x y

placing-keeps : (id : ℕ) → KeepsCellsAt (placing_with_id id)
placing-keeps id = found-keeps-cells (λ d. object_place d.map id) (λ place. of_object place placing)
    (λ place f. layer_objects-keeps place.layer (change_at place.at (placing.update f)))

object_head-keeps : (id : ℕ) → KeepsCellsAt (head_with_id id)
object_head-keeps id = found-keeps-cells (λ d. object_place d.map id) (λ place. of_object place head)
    (λ place f. layer_objects-keeps place.layer (change_at place.at (head.update f)))

-- a value that is held is put in
held-keeps : {V : Type 0} (p : Lens DocumentParts V) (held : Option V) → KeepsCellsAt p → KeepsCells (put_held p held)
held-keeps p None keeps = same-keeps
held-keeps p (Some held) keeps = keeps (λ own. held)

properties-keeps : (owner : OwnerPlace) → KeepsCellsAt (properties owner)
properties-keeps places.Map f =
    record { selection = λ d. refl; layers = λ d. record { width = refl; height = refl; ids = refl }; cells = λ d id x y. refl }
properties-keeps (places.Layer id) f = layer-keeps id (layer_with_properties f) (λ l. refl) (λ l. refl) (λ number l. refl)
properties-keeps (places.Object place) f = layer_objects-keeps place.layer (change_at place.at (object_with_properties f))

setting-keeps : (owner : Owner) (property : List ℕ) → KeepsCellsAt (setting_named owner property)
setting-keeps owner property = found-keeps-cells {K = OwnerPlace × ℕ} (setting_place owner property) (λ at. setting_at at.0 at.1)
    (λ at f. properties-keeps at.0 (change_at at.1 (setting.update f)))

tilesets-keeps : KeepsCellsAt tilesets
tilesets-keeps f = record { selection = λ d. refl; layers = λ d. record { width = refl; height = refl; ids = refl }; cells = λ d id x y. refl }

next_object_id-keeps : KeepsCellsAt next_object_id
next_object_id-keeps f = record { selection = λ d. refl; layers = λ d. record { width = refl; height = refl; ids = refl }; cells = λ d id x y. refl }

-- ---- slots in which all cells stay
linked-keeps : {X : Type 0} (s : Slot X) (held : Option (Option X)) → ((x : X) → KeepsCells (s.with_item x)) → KeepsCells s.without_item
    → KeepsCells (linked s held)
linked-keeps s None puts takes = takes
linked-keeps s (Some None) puts takes = same-keeps
linked-keeps s (Some (Some x)) puts takes = puts x

some-keeps : {X : Type 0} (s : Slot X) (o : Option X) → ((x : X) → KeepsCells (s.with_item x)) → KeepsCells (with_some s o)
some-keeps s None puts = same-keeps
some-keeps s (Some x) puts = puts x

-- what is taken out of one slot goes into another
moved-keeps : {X : Type 0} (s t : Slot X) → ((x : X) → KeepsCells (t.with_item x)) → KeepsCells s.without_item → KeepsCells (moved s t)
moved-keeps s t puts takes = record {
  selection = λ d. (twice-keeps _ _ (some-keeps t (s.item d) puts) takes).selection d;
  layers = λ d. (twice-keeps _ _ (some-keeps t (s.item d) puts) takes).layers d;
  cells = λ d. (twice-keeps _ _ (some-keeps t (s.item d) puts) takes).cells d;
}

slot-keeps : {X : Type 0} (p : Lens DocumentParts (List X)) (at : ℕ) (held : Option (Option X)) → KeepsCellsAt p → KeepsCells (linked (slot_in p at) held)
slot-keeps p at held keeps = linked-keeps (slot_in p at) held (λ x. keeps (λ xs. insert xs at x)) (keeps (λ xs. remove xs at))

next_slot-keeps : {X : Type 0} (p : Lens DocumentParts (List X)) (next raised : ℕ) (held : Option (Option X)) → KeepsCellsAt p
    → KeepsCells (linked (next_slot_in p next_object_id next raised) held)
next_slot-keeps p next raised held keeps =
    linked-keeps (next_slot_in p next_object_id next raised) held
    (λ x. twice-keeps _ _ (next_object_id-keeps (λ n. raised)) (keeps (λ xs. insert xs (length xs) x)))
    (twice-keeps _ _ (next_object_id-keeps (λ n. next)) (keeps (λ xs. remove xs (length xs - 1))))

-- ---- edits of the outline
rename-covers : (c : RenameLayer) → Covers outline_differs (rename_change c)
rename-covers c = outline-covers (rename_exchange c) (name-keeps c.layer (λ own. c.name))

show-covers : (c : ShowLayer) → Covers outline_differs (show_change c)
show-covers c = outline-covers (show_exchange c) (visible-keeps c.layer (λ own. c.visible))

add_object-covers : (c : AddObject) → Covers outline_differs (add_object_change c)
add_object-covers c = outline-covers (add_object_exchange c) (next_slot-keeps (layer_objects c.layer) c.next c.raised c.object (layer_objects-keeps c.layer))

remove_object-covers : (c : RemoveObject) → Covers outline_differs (remove_object_change c)
remove_object-covers c = outline-covers (remove_object_exchange c)
    (slot-keeps (layer_objects c.place.layer) c.place.at c.object (layer_objects-keeps c.place.layer))

reparent_object-covers : (c : ReparentObject) → Covers outline_differs (reparent_object_change c)
reparent_object-covers c = outline-covers (reparent_object_exchange c)
    (moved-keeps (object_slot c.from) (object_slot c.to) (λ o. layer_objects-keeps c.to.layer (λ os. insert os c.to.at o))
    (layer_objects-keeps c.from.layer (λ os. remove os c.from.at)))

place_object-covers : (c : PlaceObject) → Covers outline_differs (place_object_change c)
place_object-covers c = outline-covers (place_object_exchange c) (placing-keeps c.object (λ own. c.placing))

set_object_head-covers : (c : SetHead ObjectHead) → Covers outline_differs (set_head_change object_heads c)
set_object_head-covers c = outline-covers (set_head_exchange object_heads c) (held-keeps (head_with_id c.id) c.head (object_head-keeps c.id))

set_layer_head-covers : (c : SetHead LayerHead) → Covers outline_differs (set_head_change layer_heads c)
set_layer_head-covers c = outline-covers (set_head_exchange layer_heads c) (held-keeps (layer_head_with_id c.id) c.head (layer_head-keeps c.id))

set_tileset_head-covers : (c : SetHead TilesetHead) → Covers outline_differs (set_head_change tileset_heads c)
set_tileset_head-covers c = outline-covers (set_head_exchange tileset_heads c) (held-keeps (tileset_head_with_id c.id) c.head (tileset_head-keeps c.id))

set_value-covers : (c : SetValue) → Covers outline_differs (set_value_change c)
set_value-covers c = outline-covers (set_value_exchange c) (held-keeps (tileset_value c.first_id c.name) c.value (tileset_value-keeps c.first_id c.name))

set_map_head-covers : (c : SetHead MapHead) → Covers outline_differs (set_head_change map_heads c)
set_map_head-covers c = outline-covers (set_head_exchange map_heads c) (held-keeps head_of_map c.head map_head-keeps)

set-keeps : (names : Names) (owner : Owner) (property : List ℕ) (place : OwnerPlace) (at : ℕ) (after : Setting) (kind : SetKind)
    → KeepsCells (set_kind_exchange names owner property place at after kind).exchanged
set-keeps names owner property place at after (Replace held is_made is_same) = setting-keeps owner property (λ own. held)
set-keeps names owner property place at after (Add new) = slot-keeps (properties place) at new (properties-keeps place)

set_property-covers : (c : SetProperty) → Covers outline_differs (set_property_change c)
set_property-covers c =
    let set = c.set.value in
    outline-covers (property_set_exchange set)
    (set-keeps (set_property_names set.owner set.name set.follows) set.owner set.name set.place set.at (given_setting set.shown) set.kind)

put-keeps : (place : OwnerPlace) (at : ℕ) (kind : PutKind) → KeepsCells (put_kind_exchange place at kind).exchanged
put-keeps place at (put_kinds.Replace held is_made is_same) =
    held-keeps (property_in place at) (held_property held) (λ f. properties-keeps place (change_at at f))
put-keeps place at (put_kinds.Add new) = slot-keeps (properties place) at new (properties-keeps place)

put_property-covers : (c : PutProperty) → Covers outline_differs (put_property_change c)
put_property-covers c = outline-covers (put_property_exchange c) (put-keeps c.place c.at c.kind)

remove_property-covers : (c : RemoveProperty) → Covers outline_differs (remove_property_change c)
remove_property-covers c = outline-covers (remove_property_exchange c) (slot-keeps (properties c.owner) c.at c.property (properties-keeps c.owner))

add_tileset-covers : (c : AddTileset) → Covers outline_differs (add_tileset_change c)
add_tileset-covers c = outline-covers (add_tileset_exchange c) (slot-keeps tilesets c.at c.tileset tilesets-keeps)

remove_tileset-covers : (c : RemoveTileset) → Covers outline_differs (remove_tileset_change c)
remove_tileset-covers c = outline-covers (remove_tileset_exchange c) (slot-keeps tilesets c.at c.tileset tilesets-keeps)

-- ---- edits of layers, which leave the selection
layers-cover : (x : Exchange) → ((d : DocumentParts) → (x.exchanged d).selection ≡ d.selection) → Covers layers_differ (change_of x)
layers-cover x stays = exchange-covers layers_differ x (λ d h. record {
  outline = λ told. absurd (true≢false told);
  selection = λ told. stays d;
  layers = λ told. absurd (told refl);
  cells = λ id x y told. absurd (told tt);
})

siblings-selection : (parent : Option ℕ) (f : List Layer → List Layer) (d : DocumentParts) → ((siblings parent).update f d).selection ≡ d.selection
siblings-selection None f d = refl
siblings-selection (Some id) f d = refl

add_layer-covers : (c : AddLayer) → Covers layers_differ (add_change c)
add_layer-covers c = layers-cover (add_exchange c) (by_held c.layer)
  where
    by_held : (held : Option (Option Layer)) (d : DocumentParts) → (linked (new_layer_slot c.place c.next c.raised) held d).selection ≡ d.selection
    by_held None d = siblings-selection c.place.parent (λ ls. remove ls c.place.at) d
    by_held (Some None) d = refl
    by_held (Some (Some l)) d = siblings-selection c.place.parent (λ ls. insert ls c.place.at l) d

remove_layer-covers : (c : RemoveLayer) → Covers layers_differ (remove_change c)
remove_layer-covers c = layers-cover (remove_exchange c) (by_held c.layer)
  where
    by_held : (held : Option (Option Layer)) (d : DocumentParts) → (linked (layer_slot c.place) held d).selection ≡ d.selection
    by_held None d = siblings-selection c.place.parent (λ ls. remove ls c.place.at) d
    by_held (Some None) d = refl
    by_held (Some (Some l)) d = siblings-selection c.place.parent (λ ls. insert ls c.place.at l) d

move_layer-covers : (c : MoveLayer) → Covers layers_differ (move_change c)
move_layer-covers c = layers-cover (move_exchange c) (λ d. refl)

number_tileset-covers : (c : NumberTileset) → Covers layers_differ (number_tileset_change c)
number_tileset-covers c = layers-cover (number_tileset_exchange c) (λ d. refl)

-- ---- others
pub resize-covers : (c : ResizeMap) → Covers all_differs (resize_change c)
resize-covers c = exchange-covers all_differs (resize_exchange c) (λ d h. record {
  outline = λ told. absurd (true≢false told);
  selection = λ told. absurd (true≢false told);
  layers = λ told. absurd (told refl);
  cells = λ id x y told. absurd (told tt);
})

pub select-covers : (c : SelectCommand) → Covers selection_differs (select_change c)
select-covers c = exchange-covers selection_differs (select_exchange c) (λ d h. record {
  outline = λ told. refl;
  selection = λ told. absurd (true≢false told);
  layers = λ told. record { width = refl; height = refl; ids = refl };
  cells = λ id x y told. refl;
})

-- ---- edits that are told alike
-- the edit is of this kind
abbrev IsOf : {C : Type 0} → (C → Edit) → Edit → Type 0
IsOf {C = C} kind e = (command : C) × (e ≡ kind command)

pub outline_edit-covers : (e : Edit)
    → IsOf edits.RenameLayer e ⊎ (IsOf edits.ShowLayer e ⊎ (IsOf edits.AddObject e ⊎ (IsOf edits.RemoveObject e ⊎ (IsOf edits.PlaceObject e
    ⊎ (IsOf edits.SetProperty e ⊎ (IsOf edits.RemoveProperty e ⊎ (IsOf edits.AddTileset e
    ⊎ (IsOf edits.RemoveTileset e ⊎ (IsOf edits.SetObjectHead e ⊎ (IsOf edits.SetLayerHead e ⊎ (IsOf edits.SetMapHead e
    ⊎ (IsOf edits.ReparentObject e ⊎ (IsOf edits.PutProperty e
    ⊎ (IsOf edits.SetTilesetHead e ⊎ IsOf edits.SetTilesetMember e))))))))))))))
    → Covers outline_differs (edit_change e)
outline_edit-covers e (inl h) = rw h.1 (rename-covers h.0)
outline_edit-covers e (inr (inl h)) = rw h.1 (show-covers h.0)
outline_edit-covers e (inr (inr (inl h))) = rw h.1 (add_object-covers h.0)
outline_edit-covers e (inr (inr (inr (inl h)))) = rw h.1 (remove_object-covers h.0)
outline_edit-covers e (inr (inr (inr (inr (inl h))))) = rw h.1 (place_object-covers h.0)
outline_edit-covers e (inr (inr (inr (inr (inr (inl h)))))) = rw h.1 (set_property-covers h.0)
outline_edit-covers e (inr (inr (inr (inr (inr (inr (inl h))))))) = rw h.1 (remove_property-covers h.0)
outline_edit-covers e (inr (inr (inr (inr (inr (inr (inr (inl h)))))))) = rw h.1 (add_tileset-covers h.0)
outline_edit-covers e (inr (inr (inr (inr (inr (inr (inr (inr (inl h))))))))) = rw h.1 (remove_tileset-covers h.0)
outline_edit-covers e (inr (inr (inr (inr (inr (inr (inr (inr (inr (inl h)))))))))) = rw h.1 (set_object_head-covers h.0.value)
outline_edit-covers e (inr (inr (inr (inr (inr (inr (inr (inr (inr (inr (inl h))))))))))) = rw h.1 (set_layer_head-covers h.0.value)
outline_edit-covers e (inr (inr (inr (inr (inr (inr (inr (inr (inr (inr (inr (inl h)))))))))))) = rw h.1 (set_map_head-covers h.0.value)
outline_edit-covers e (inr (inr (inr (inr (inr (inr (inr (inr (inr (inr (inr (inr (inl h))))))))))))) = rw h.1 (reparent_object-covers h.0)
outline_edit-covers e (inr (inr (inr (inr (inr (inr (inr (inr (inr (inr (inr (inr (inr (inl h)))))))))))))) = rw h.1 (put_property-covers h.0)
outline_edit-covers e (inr (inr (inr (inr (inr (inr (inr (inr (inr (inr (inr (inr (inr (inr (inl h))))))))))))))) = rw h.1 (set_tileset_head-covers h.0.value)
outline_edit-covers e (inr (inr (inr (inr (inr (inr (inr (inr (inr (inr (inr (inr (inr (inr (inr h))))))))))))))) = rw h.1 (set_value-covers h.0.value)

pub layer_edit-covers : (e : Edit)
    → IsOf edits.AddLayer e ⊎ (IsOf edits.RemoveLayer e ⊎ (IsOf edits.MoveLayer e ⊎ IsOf edits.NumberTileset e)) → Covers layers_differ (edit_change e)
layer_edit-covers e (inl h) = rw h.1 (add_layer-covers h.0)
layer_edit-covers e (inr (inl h)) = rw h.1 (remove_layer-covers h.0)
layer_edit-covers e (inr (inr (inl h))) = rw h.1 (move_layer-covers h.0)
layer_edit-covers e (inr (inr (inr h))) = rw h.1 (number_tileset-covers h.0)
