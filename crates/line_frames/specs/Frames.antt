-- The frame law of edits: which places an edit touches, and what it does at them and at all others.
use Rattle.std.specs.Prelude.{◌≡◌, ℕ, List, [], ◌∷◌, Bool, true, false, ◌&&◌, ◌||◌, nat_eq, is_some, Option, Some, None, option_and_then, Result, Ok, Err}
use Rattle.std.specs.Option.{option_map}
use Rattle.std.specs.Str.{bytes_eq}
use Rattle.map_model.specs.declared.heads.LayerHead.{LayerHead}
use Rattle.map_model.specs.declared.heads.MapHead.{MapHead}
use Rattle.map_model.specs.declared.heads.ObjectHead.{ObjectHead}
use Rattle.map_model.specs.declared.heads.TilesetHead.{TilesetHead}
use Rattle.map_model.specs.declared.owner.MemberOwner.TheVariants as members
use Rattle.map_model.specs.declared.owner.Owner.{Owner}
use Rattle.map_model.specs.declared.owner.Owner.TheVariants as owners
use Rattle.map_model.specs.declared.parts.Object.{Object}
use Rattle.map_model.specs.declared.parts.Property.{Property}
use Rattle.map_model.specs.declared.setting.Setting.{Setting}
use Rattle.map_model.specs.Document.{DocumentParts}
use Rattle.map_model.specs.Heads.{head_of_map, head_with_id, layer_head_with_id, tileset_head_with_id}
use Rattle.map_model.specs.Lens.{Lens, put}
use Rattle.map_model.specs.WellFormed.{IsWellFormed}
use Rattle.edits.specs.declared.area.Area.{Area}
use Rattle.edits.specs.Blocks.{ValueBlock, in_area, stamp_over}
use Rattle.edits.specs.ObjectEdits.{after_put_object, after_remove_object}
use Rattle.edits.specs.PropertyEdits.{after_remove_property, after_set_property}
use Rattle.edits.specs.Stamping.{after_erase, after_stamp}
use Rattle.property_commands.specs.PutEdits.{after_put_property}
use Rattle.line_frames.specs.Places.{AgreeAt, Place, Cell, LayerOf, MembersOf, PropertyOf, Selection}

-- ---- edits
-- a stamp of a block of values in the layer with an id; an erase of an area there; own members of the map, of the layer with an id,
-- of the tileset with a first id or of the object with an id, which become what
-- the edit makes of them, where it makes any; a property of an owner, by its name, that gets a type and a value, is put in whole, or is taken out; an object
-- that has its id and goes last in the layer with an id; the object with an id taken out
pub data Edit : Type 0 where
  Stamp : ℕ → ValueBlock → Edit
  Erase : ℕ → Area → Edit
  MapMembers : (MapHead → Option MapHead) → Edit
  LayerMembers : ℕ → (LayerHead → Option LayerHead) → Edit
  TilesetMembers : ℕ → (TilesetHead → Option TilesetHead) → Edit
  ObjectMembers : ℕ → (ObjectHead → Option ObjectHead) → Edit
  SetProperty : Owner → List ℕ → Setting → Edit
  PutProperty : Owner → Property → Edit
  RemoveProperty : Owner → List ℕ → Edit
  PutObject : ℕ → Object → Edit
  RemoveObject : ℕ → Edit

abbrev pub done : {A E : Type 0} → Result A E → Option A
done (Ok x) = Some x
done (Err fault) = None

-- the document with the members that a change makes of those of an owner
abbrev pub with_members : {H : Type 0} → Lens DocumentParts H → (H → Option H) → DocumentParts → Option DocumentParts
with_members p change d = option_map (λ h. put p h d) (option_and_then change (p.get d))

-- the document after an edit; none where it is refused
abbrev pub after : Edit → DocumentParts → Option DocumentParts
after (Stamp layer block) d = done (after_stamp d layer block)
after (Erase layer area) d = done (after_erase d layer area)
after (MapMembers change) d = with_members head_of_map change d
after (LayerMembers id change) d = with_members (layer_head_with_id id) change d
after (TilesetMembers first_id change) d = with_members (tileset_head_with_id first_id) change d
after (ObjectMembers id change) d = with_members (head_with_id id) change d
after (SetProperty owner name setting) d = done (after_set_property d owner name setting.kind setting.value)
after (PutProperty owner property) d = done (after_put_property d owner property)
after (RemoveProperty owner name) d = done (after_remove_property d owner name)
after (PutObject layer o) d = done (after_put_object d layer true o)
after (RemoveObject id) d = done (after_remove_object d id)

-- an edit of a well-formed document gives the other one, which is well formed
pub record Leads (edit : Edit) (d n : DocumentParts) : Type 0 where
  pub well_formed : IsWellFormed d.map
  pub is : after edit d ≡ Some n
  pub left : IsWellFormed n.map

-- and some edits do, one after another
abbrev pub AllLead : List Edit → DocumentParts → DocumentParts → Type 0
AllLead [] d n = n ≡ d
AllLead (edit ∷ edits) d n = (mid : DocumentParts) × Leads edit d mid × AllLead edits mid n

-- ---- where they do that
-- whether two owners are the same
abbrev pub same_owner : Owner → Owner → Bool
same_owner owners.Map owners.Map = true
same_owner (owners.Layer a) (owners.Layer b) = nat_eq a b
same_owner (owners.Object a) (owners.Object b) = nat_eq a b
same_owner a b = false

-- whether a place is one of the object with the id
abbrev pub is_of_object : ℕ → Place → Bool
is_of_object id (MembersOf (members.Object own)) = nat_eq own id
is_of_object id (PropertyOf (owners.Object own) name) = nat_eq own id
is_of_object id (LayerOf own) = nat_eq own id
is_of_object id place = false

-- the places that an edit touches; an object more may raise the map's next object id
abbrev pub touches : Edit → Place → Bool
touches (Stamp layer block) (Cell id x y) = nat_eq id layer && is_some (stamp_over block x y)
touches (Erase layer area) (Cell id x y) = nat_eq id layer && in_area area x y
touches (MapMembers change) (MembersOf members.Map) = true
touches (LayerMembers id change) (MembersOf (members.Layer own)) = nat_eq own id
touches (TilesetMembers first_id change) (MembersOf (members.Tileset own)) = nat_eq own first_id
touches (ObjectMembers id change) (MembersOf (members.Object own)) = nat_eq own id
touches (SetProperty owner name setting) (PropertyOf own other) = same_owner own owner && bytes_eq other name
touches (PutProperty owner property) (PropertyOf own other) = same_owner own owner && bytes_eq other property.name
touches (RemoveProperty owner name) (PropertyOf own other) = same_owner own owner && bytes_eq other name
touches (PutObject layer o) (MembersOf members.Map) = true
touches (PutObject layer o) place = is_of_object o.id place
touches (RemoveObject id) place = is_of_object id place
touches edit place = false

-- the places that it looks at beside those
abbrev pub sees : Edit → Place → Bool
sees (Stamp layer block) Selection = true
sees (Erase layer area) Selection = true
sees edit place = false

abbrev pub looks_at : Edit → Place → Bool
looks_at edit place = touches edit place || sees edit place

-- the places that one of some edits touches, and those that one looks at
abbrev pub any_touches : List Edit → Place → Bool
any_touches [] place = false
any_touches (edit ∷ edits) place = touches edit place || any_touches edits place

abbrev pub any_looks_at : List Edit → Place → Bool
any_looks_at [] place = false
any_looks_at (edit ∷ edits) place = looks_at edit place || any_looks_at edits place

-- ---- the laws
-- outside what it touches an edit changes nothing
abbrev pub OutsideLaw : Type 0
OutsideLaw = (edit : Edit) (d n : DocumentParts) → Leads edit d n → (place : Place) → touches edit place ≡ false → AgreeAt place n d

-- and what it puts there depends on the edit, and on what stands at the places that it looks at, alone
abbrev pub InsideLaw : Type 0
InsideLaw = (edit : Edit) (d n e k : DocumentParts) → Leads edit d n → Leads edit e k
    → ((place : Place) → looks_at edit place ≡ true → AgreeAt place d e) → (place : Place) → touches edit place ≡ true → AgreeAt place n k

-- one edit touches nothing that another one looks at
abbrev pub IsFreeOf : Edit → Edit → Type 0
IsFreeOf a b = (place : Place) → touches a place ≡ true → looks_at b place ≡ false

-- two edits, neither of which touches what the other one looks at, do the same in either order
abbrev pub OrderLaw : Type 0
OrderLaw = (a b : Edit) (d n k : DocumentParts) → IsFreeOf a b → IsFreeOf b a → AllLead (a ∷ b ∷ []) d n → AllLead (b ∷ a ∷ []) d k
    → (place : Place) → AgreeAt place n k

-- Edits led from a base to theirs, and are done to ours, which has what they look at as the base has it. Then the merged document
-- has theirs where they touch, and ours everywhere else: so each change of both is there.
pub record HoldsBoth (edits : List Edit) (base ours theirs merged : DocumentParts) (place : Place) : Type 0 where
  pub inside : any_touches edits place ≡ true → AgreeAt place merged theirs
  pub outside : any_touches edits place ≡ false → AgreeAt place merged ours
  pub their_change : (AgreeAt place theirs base → ⊥) → AgreeAt place merged theirs
  pub our_change : (AgreeAt place ours base → ⊥) → AgreeAt place merged ours

abbrev pub MergeLaw : Type 0
MergeLaw = (edits : List Edit) (base ours theirs merged : DocumentParts) → AllLead edits base theirs → AllLead edits ours merged
    → ((place : Place) → any_looks_at edits place ≡ true → AgreeAt place ours base)
    → (place : Place) → HoldsBoth edits base ours theirs merged place
