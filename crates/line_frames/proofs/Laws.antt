-- The frame law of each edit.
use Rattle.std.proofs.Common.{◌≡◌, ℕ, List, nat_eq, ◌&&◌, Bool, true, false, cond, is_some, Option, Some, None, option_and_then, option_map, refl}
use Rattle.std.proofs.Common.{sym, ap, ◌∙◌, subst}
use Rattle.std.specs.Prelude.{Result, Ok, Err}
use Rattle.std.proofs.lemmas.Slice.Eq.{bytes_eq-Decides}
use Rattle.std.specs.List.{list_all}
use Rattle.std.specs.Str.{bytes_eq}
use Rattle.refusals.specs.declared.edit_fault.EditFault.TheVariants.{UnknownTile}
use Rattle.map_model.specs.declared.heads.LayerHead.{LayerHead}
use Rattle.map_model.specs.declared.heads.MapHead.{MapHead}
use Rattle.map_model.specs.declared.heads.ObjectHead.{ObjectHead}
use Rattle.map_model.specs.declared.heads.TilesetHead.{TilesetHead}
use Rattle.map_model.specs.declared.owner.MemberOwner.TheVariants as members
use Rattle.map_model.specs.declared.owner.Owner.{Owner}
use Rattle.map_model.specs.declared.parts.Object.{Object}
use Rattle.map_model.specs.declared.parts.Property.{Property}
use Rattle.map_model.specs.declared.setting.Setting.{Setting}
use Rattle.map_model.specs.Document.{DocumentParts, with_map}
use Rattle.map_model.specs.Heads.{head_of_map, head_with_id, layer_head_with_id, tileset_head_with_id}
use Rattle.map_model.specs.Lookups.{layer_of}
use Rattle.map_model.specs.Properties.{has_name, new_property, property_with_setting}
use Rattle.map_model.specs.Refusing.{◌>>◌, check}
use Rattle.map_model.specs.WellFormed.{IsWellFormed}
use Rattle.map_model.proofs.HeadLaws.{head_with_id-laws, layer_head-laws, map_head-laws, tileset_head-laws}
use Rattle.map_model.proofs.LensLaws.{some-eq}
use Rattle.edits.specs.declared.area.Area.{Area}
use Rattle.edits.specs.Blocks.{ValueBlock, erase_over, in_area, stamp_over}
use Rattle.edits.specs.Covering.{covered_map, where_selected}
use Rattle.edits.specs.Refusals.{is_known, tiles_or_fault}
use Rattle.edits.specs.Stamping.{after_erase, after_stamp}
use Rattle.line_frames.proofs.Members.{is_layer, is_map, is_object, is_tileset, layer-outside, map-outside, object-outside, put-done, put-get, tileset-outside}
use Rattle.line_frames.proofs.Merging.{first_true}
use Rattle.line_frames.proofs.Named.{put_found, same_text}
use Rattle.line_frames.proofs.ObjectEdits.{added-members, added-outside, added-tells, put-object-done, raised, remove-done, removed-outside, removed-tells}
use Rattle.line_frames.proofs.ObjectEdits.{told-same}
use Rattle.line_frames.proofs.Properties.{IsPut, is_named, put-outside, put-own, remove-taken, same-owner, set-put, take-outside, take-own, whole-put}
use Rattle.line_frames.proofs.Tiles.{and_first, covered-inside, covered-outside, lies_over, none-selected, same_number}
use Rattle.line_frames.specs.Frames.{Erase, InsideLaw, LayerMembers, Leads, MapMembers, ObjectMembers, OutsideLaw, PutObject, PutProperty}
use Rattle.line_frames.specs.Frames.{RemoveObject, RemoveProperty, SetProperty, Stamp}
use Rattle.line_frames.specs.Frames.{TilesetMembers, done, is_of_object, same_owner, touches}
use Rattle.line_frames.specs.Places.{AgreeAt, Cell, LayerOf, MembersOf, Outline, Place, PropertyOf, Selection, content}

-- ---- what is done
then-done : {A B E : Type 0} (r : Result A E) (next : Result B E) (x : B) → done (r >> next) ≡ Some x → done next ≡ Some x
then-done (Ok y) next x e = e
then-done (Err fault) next x e = cc

-- the document that a stamp gives
stamped : (layer : ℕ) (block : ValueBlock) (d n : DocumentParts) → done (after_stamp d layer block) ≡ Some n
    → with_map (covered_map layer (where_selected d.selection (stamp_over block))) d ≡ n
stamped layer block d n e =
    let m = with_map (covered_map layer (where_selected d.selection (stamp_over block))) d in
    some-eq m n
    (then-done (check (list_all (is_known d.map) block.values) UnknownTile) (Ok m) n
    (then-done (tiles_or_fault (layer_of d.map layer)) (check (list_all (is_known d.map) block.values) UnknownTile >> Ok m) n e))

-- and the one that an erase gives
erased : (layer : ℕ) (area : Area) (d n : DocumentParts) → done (after_erase d layer area) ≡ Some n
    → with_map (covered_map layer (where_selected d.selection (erase_over area))) d ≡ n
erased layer area d n e =
    let m = with_map (covered_map layer (where_selected d.selection (erase_over area))) d in
    some-eq m n (then-done (tiles_or_fault (layer_of d.map layer)) (Ok m) n e)

-- ---- what is touched
stamp-touches : (layer : ℕ) (block : ValueBlock) (place : Place) → touches (Stamp layer block) place ≡ lies_over layer (stamp_over block) place
stamp-touches layer block (Cell id x y) = refl
stamp-touches layer block place = refl

erase-touches : (layer : ℕ) (area : Area) (place : Place) → touches (Erase layer area) place ≡ lies_over layer (erase_over area) place
erase-touches layer area (Cell id x y) = ap (λ b. nat_eq id layer && b) (by_test (in_area area x y))
  where
    by_test : (b : Bool) → b ≡ is_some {T = ℕ} (cond b (Some 0) None)
    by_test true = refl
    by_test false = refl
erase-touches layer area place = refl

layer-touches : (id : ℕ) (change : LayerHead → Option LayerHead) (place : Place) → touches (LayerMembers id change) place ≡ is_layer id place
layer-touches id change (MembersOf (members.Layer own)) = refl
layer-touches id change place = refl

tileset-touches : (first_id : ℕ) (change : TilesetHead → Option TilesetHead) (place : Place)
    → touches (TilesetMembers first_id change) place ≡ is_tileset first_id place
tileset-touches first_id change (MembersOf (members.Tileset own)) = refl
tileset-touches first_id change place = refl

map-touches : (change : MapHead → Option MapHead) (place : Place) → touches (MapMembers change) place ≡ is_map place
map-touches change (MembersOf members.Map) = refl
map-touches change place = refl

object-touches : (id : ℕ) (change : ObjectHead → Option ObjectHead) (place : Place) → touches (ObjectMembers id change) place ≡ is_object id place
object-touches id change (MembersOf (members.Object own)) = refl
object-touches id change place = refl

set-touches : (owner : Owner) (name : List ℕ) (setting : Setting) (place : Place) → touches (SetProperty owner name setting) place ≡ is_named owner name place
set-touches owner name setting (PropertyOf own other) = refl
set-touches owner name setting place = refl

put-touches : (owner : Owner) (property : Property) (place : Place) → touches (PutProperty owner property) place ≡ is_named owner property.name place
put-touches owner property (PropertyOf own other) = refl
put-touches owner property place = refl

remove-touches : (owner : Owner) (name : List ℕ) (place : Place) → touches (RemoveProperty owner name) place ≡ is_named owner name place
remove-touches owner name (PropertyOf own other) = refl
remove-touches owner name place = refl

object-touches-not : (layer : ℕ) (o : Object) (place : Place) → touches (PutObject layer o) place ≡ false
    → (is_of_object o.id place ≡ false) × (is_map place ≡ false)
object-touches-not layer o (MembersOf members.Map) e = cc
object-touches-not layer o (MembersOf (members.Layer own)) e = (refl, refl)
object-touches-not layer o (MembersOf (members.Object own)) e = (e, refl)
object-touches-not layer o (MembersOf (members.Tileset own)) e = (refl, refl)
object-touches-not layer o (Cell own x y) e = (refl, refl)
object-touches-not layer o (PropertyOf own name) e = (e, refl)
object-touches-not layer o (LayerOf own) e = (e, refl)
object-touches-not layer o Selection e = (refl, refl)
object-touches-not layer o Outline e = (refl, refl)

taken-touches : (id : ℕ) (place : Place) → touches (RemoveObject id) place ≡ is_of_object id place
taken-touches id (MembersOf own) = refl
taken-touches id (PropertyOf own name) = refl
taken-touches id place = refl

-- ---- properties
own_name : (name : List ℕ) → bytes_eq name name ≡ true
own_name name = (bytes_eq-Decides name name).1 refl

and_second : (s t : Bool) → (s && t) ≡ true → t ≡ true
and_second true t e = e
and_second false t e = cc

-- a property that is touched is the owner's of that name
the-property : (owner own : Owner) (name other : List ℕ) (d n : DocumentParts) → (same_owner own owner && bytes_eq other name) ≡ true
    → AgreeAt (PropertyOf owner name) d n → AgreeAt (PropertyOf own other) d n
the-property owner own name other d n t agree =
    let same = same-owner own owner (and_first (same_owner own owner) (bytes_eq other name) t) in
    let text = same_text other name (and_second (same_owner own owner) (bytes_eq other name) t) in
    subst (λ (o : Owner). AgreeAt (PropertyOf o other) d n) (sym same) (subst (λ q. AgreeAt (PropertyOf owner q) d n) (sym text) agree)

-- two documents with the same property of a name have the same one behind an edit that puts it
same-put : (owner : Owner) (name : List ℕ) (f : Property → Property) (new : Property) → has_name name new ≡ true
    → ((p : Property) → has_name name p ≡ true → has_name name (f p) ≡ true)
    → (d n e k : DocumentParts) → IsPut owner name f new d n → IsPut owner name f new e k → IsWellFormed d.map → IsWellFormed e.map
    → (own : Owner) (other : List ℕ) → (same_owner own owner && bytes_eq other name) ≡ true → AgreeAt (PropertyOf own other) d e
    → AgreeAt (PropertyOf own other) n k
same-put owner name f new named keeps d n e k a b h j own other t agree =
    let same = same-owner own owner (and_first (same_owner own owner) (bytes_eq other name) t) in
    let text = same_text other name (and_second (same_owner own owner) (bytes_eq other name) t) in
    let here : AgreeAt (PropertyOf owner name) d e = subst (λ q. AgreeAt (PropertyOf owner q) d e) text
    (subst (λ (o : Owner). AgreeAt (PropertyOf o other) d e) same agree) in
    the-property owner own name other n k t
    (put-own owner name f new named keeps d n a h ∙ ap (put_found f new) here ∙ sym (put-own owner name f new named keeps e k b j))

-- ---- the laws
pub outside-law : OutsideLaw
outside-law (Stamp layer block) d n leads place e =
    ap (content place) (sym (stamped layer block d n leads.is))
    ∙ covered-outside layer (where_selected d.selection (stamp_over block)) d place
    (none-selected d.selection layer (stamp_over block) place (sym (stamp-touches layer block place) ∙ e))
outside-law (Erase layer area) d n leads place e =
    ap (content place) (sym (erased layer area d n leads.is))
    ∙ covered-outside layer (where_selected d.selection (erase_over area)) d place
    (none-selected d.selection layer (erase_over area) place (sym (erase-touches layer area place) ∙ e))
outside-law (MapMembers change) d n leads place e =
    let made = put-done head_of_map change d n leads.is in
    ap (content place) (sym made.1) ∙ map-outside made.0 d place (sym (map-touches change place) ∙ e)
outside-law (LayerMembers id change) d n leads place e =
    let made = put-done (layer_head_with_id id) change d n leads.is in
    ap (content place) (sym made.1) ∙ layer-outside id made.0 d place (sym (layer-touches id change place) ∙ e)
outside-law (TilesetMembers first_id change) d n leads place e =
    let made = put-done (tileset_head_with_id first_id) change d n leads.is in
    ap (content place) (sym made.1) ∙ tileset-outside first_id made.0 d place (sym (tileset-touches first_id change place) ∙ e)
outside-law (ObjectMembers id change) d n leads place e =
    let made = put-done (head_with_id id) change d n leads.is in
    ap (content place) (sym made.1) ∙ object-outside id made.0 d leads.well_formed place (sym (object-touches id change place) ∙ e)
outside-law (SetProperty owner name setting) d n leads place e =
    put-outside owner name (property_with_setting setting) (new_property name setting) (own_name name) (λ p h. h) d n
    (set-put owner name setting d n leads.is) leads.well_formed place (sym (set-touches owner name setting place) ∙ e)
outside-law (PutProperty owner property) d n leads place e =
    put-outside owner property.name (λ own. property) property (own_name property.name) (λ p h. own_name property.name) d n
    (whole-put owner property d n leads.is) leads.well_formed place (sym (put-touches owner property place) ∙ e)
outside-law (RemoveProperty owner name) d n leads place e =
    take-outside owner name d n (remove-taken owner name d n leads.is) leads.well_formed place (sym (remove-touches owner name place) ∙ e)
outside-law (PutObject layer o) d n leads place e =
    let parts = object-touches-not layer o place e in
    added-outside layer o d n (put-object-done layer o d n leads.is) leads.well_formed leads.left place parts.0 parts.1
outside-law (RemoveObject id) d n leads place e =
    removed-outside id d n (remove-done id d n leads.is) leads.well_formed leads.left place (sym (taken-touches id place) ∙ e)

-- an object that was put in is the same in two documents
same-added : (layer : ℕ) (o : Object) (d n e k : DocumentParts) → Leads (PutObject layer o) d n → Leads (PutObject layer o) e k
    → (place : Place) → is_of_object o.id place ≡ true → AgreeAt place n k
same-added layer o d n e k a b =
    told-same n k a.left b.left o.id (Some (layer, o)) (added-tells layer o d n (put-object-done layer o d n a.is) a.well_formed a.left)
    (added-tells layer o e k (put-object-done layer o e k b.is) b.well_formed b.left)

pub inside-law : InsideLaw
inside-law (Stamp layer block) d n e k a b agree (Cell id x y) t =
    ap (content (Cell id x y)) (sym (stamped layer block d n a.is))
    ∙ covered-inside layer (stamp_over block) d e (agree Selection refl) id x y (and_first (nat_eq id layer) (is_some (stamp_over block x y)) t)
    (agree (Cell id x y) (first_true (touches (Stamp layer block) (Cell id x y)) false t))
    ∙ ap (content (Cell id x y)) (stamped layer block e k b.is)
inside-law (Stamp layer block) d n e k a b agree place t = cc
inside-law (Erase layer area) d n e k a b agree (Cell id x y) t =
    ap (content (Cell id x y)) (sym (erased layer area d n a.is))
    ∙ covered-inside layer (erase_over area) d e (agree Selection refl) id x y (and_first (nat_eq id layer) (in_area area x y) t)
    (agree (Cell id x y) (first_true (touches (Erase layer area) (Cell id x y)) false t))
    ∙ ap (content (Cell id x y)) (erased layer area e k b.is)
inside-law (Erase layer area) d n e k a b agree place t = cc
inside-law (MapMembers change) d n e k a b agree (MembersOf members.Map) t =
    put-get head_of_map change d n map_head-laws a.is ∙ ap (option_and_then change) (agree (MembersOf members.Map) refl)
    ∙ sym (put-get head_of_map change e k map_head-laws b.is)
inside-law (MapMembers change) d n e k a b agree place t = cc
inside-law (LayerMembers id change) d n e k a b agree (MembersOf (members.Layer own)) t =
    let is = same_number own id t in
    subst (λ o. AgreeAt (MembersOf (members.Layer o)) n k) (sym is)
    (put-get (layer_head_with_id id) change d n (layer_head-laws id) a.is
    ∙ ap (option_and_then change) (subst (λ o. AgreeAt (MembersOf (members.Layer o)) d e) is
    (agree (MembersOf (members.Layer own)) (first_true (nat_eq own id) false t)))
    ∙ sym (put-get (layer_head_with_id id) change e k (layer_head-laws id) b.is))
inside-law (LayerMembers id change) d n e k a b agree place t = cc
inside-law (TilesetMembers first_id change) d n e k a b agree (MembersOf (members.Tileset own)) t =
    let is = same_number own first_id t in
    subst (λ o. AgreeAt (MembersOf (members.Tileset o)) n k) (sym is)
    (put-get (tileset_head_with_id first_id) change d n (tileset_head-laws first_id) a.is
    ∙ ap (option_and_then change) (subst (λ o. AgreeAt (MembersOf (members.Tileset o)) d e) is
    (agree (MembersOf (members.Tileset own)) (first_true (nat_eq own first_id) false t)))
    ∙ sym (put-get (tileset_head_with_id first_id) change e k (tileset_head-laws first_id) b.is))
inside-law (TilesetMembers first_id change) d n e k a b agree place t = cc
inside-law (ObjectMembers id change) d n e k a b agree (MembersOf (members.Object own)) t =
    let is = same_number own id t in
    subst (λ o. AgreeAt (MembersOf (members.Object o)) n k) (sym is)
    (put-get (head_with_id id) change d n (head_with_id-laws id) a.is
    ∙ ap (option_and_then change) (subst (λ o. AgreeAt (MembersOf (members.Object o)) d e) is
    (agree (MembersOf (members.Object own)) (first_true (nat_eq own id) false t)))
    ∙ sym (put-get (head_with_id id) change e k (head_with_id-laws id) b.is))
inside-law (ObjectMembers id change) d n e k a b agree place t = cc
inside-law (SetProperty owner name setting) d n e k a b agree (PropertyOf own other) t =
    same-put owner name (property_with_setting setting) (new_property name setting) (own_name name) (λ p h. h) d n e k
    (set-put owner name setting d n a.is) (set-put owner name setting e k b.is) a.well_formed b.well_formed own other t
    (agree (PropertyOf own other) (first_true (touches (SetProperty owner name setting) (PropertyOf own other)) false t))
inside-law (SetProperty owner name setting) d n e k a b agree place t = cc
inside-law (PutProperty owner property) d n e k a b agree (PropertyOf own other) t =
    same-put owner property.name (λ own. property) property (own_name property.name) (λ p h. own_name property.name) d n e k
    (whole-put owner property d n a.is) (whole-put owner property e k b.is) a.well_formed b.well_formed own other t
    (agree (PropertyOf own other) (first_true (touches (PutProperty owner property) (PropertyOf own other)) false t))
inside-law (PutProperty owner property) d n e k a b agree place t = cc
inside-law (RemoveProperty owner name) d n e k a b agree (PropertyOf own other) t =
    the-property owner own name other n k t
    (take-own owner name d n (remove-taken owner name d n a.is) a.well_formed ∙ sym (take-own owner name e k (remove-taken owner name e k b.is) b.well_formed))
inside-law (RemoveProperty owner name) d n e k a b agree place t = cc
inside-law (PutObject layer o) d n e k a b agree (MembersOf members.Map) t =
    added-members layer o d n (put-object-done layer o d n a.is) ∙ ap (option_map (raised o.id)) (agree (MembersOf members.Map) refl)
    ∙ sym (added-members layer o e k (put-object-done layer o e k b.is))
inside-law (PutObject layer o) d n e k a b agree (MembersOf (members.Object own)) t = same-added layer o d n e k a b (MembersOf (members.Object own)) t
inside-law (PutObject layer o) d n e k a b agree (PropertyOf own name) t = same-added layer o d n e k a b (PropertyOf own name) t
inside-law (PutObject layer o) d n e k a b agree (LayerOf own) t = same-added layer o d n e k a b (LayerOf own) t
inside-law (PutObject layer o) d n e k a b agree place t = cc
inside-law (RemoveObject id) d n e k a b agree place t =
    told-same n k a.left b.left id None (removed-tells id d n (remove-done id d n a.is) a.well_formed a.left)
    (removed-tells id e k (remove-done id e k b.is) b.well_formed b.left) place (sym (taken-touches id place) ∙ t)
