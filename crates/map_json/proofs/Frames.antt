-- A map's members, with its layers in the place of an empty array.
use Rattle.std.proofs.Common.{◌≡◌, ℕ, zero, suc, List, [], ◌∷◌, ◌++◌, Option, Some, None, option_map, Ordering, Less, Equal, Greater, nat_cmp, is_eq, Bool}
use Rattle.std.proofs.Common.{true, false, bytes_eq, refl, sym, ap, ◌∙◌}
use Rattle.std.specs.Prelude.{codes, if◌then◌else◌}
use Rattle.std.specs.Cmp.Lexicographic.{slice_cmp}
use Rattle.std.specs.Ordering.{match_ordering}
use Rattle.std.proofs.lemmas.Bool.{false≢true}
use Rattle.std.proofs.lemmas.Map.Text.{is_eq-slice_cmp}
use Rattle.std.proofs.lemmas.Slice.Eq.{bytes_eq-Decides}
use Rattle.serde_json.specs.Data.{Data, array, boolean, no_items, object, string, Members, no_members, member, put}
use Rattle.serde_json.specs.Find.{get_member}
use Rattle.map_model.specs.declared.names.TheConstants.{ID, NAME, VISIBLE, TYPE, PROPERTIES, WIDTH, HEIGHT, LAYERS, TILESETS, VERSION, ENCODING, COMPRESSION}
use Rattle.map_model.specs.declared.names.TheConstants.{DATA}
use Rattle.map_model.specs.declared.parts.Body.{Body}
use Rattle.map_model.specs.declared.parts.Body.TheVariants.{Tiles, Group'}
use Rattle.map_model.specs.declared.parts.Encoding.TheVariants.{Array}
use Rattle.map_model.specs.declared.parts.Layer.{Layer}
use Rattle.map_model.specs.declared.parts.MapParts.{MapParts}
use Rattle.map_model.specs.Groups.{group_in, inside}
use Rattle.map_model.specs.Format.{layer_names}
use Rattle.map_model.specs.Lists.{Each, or_empty}
use Rattle.map_json.specs.Appending.{frame_of, framed_body, instead, layer_frame, replaced}
use Rattle.map_json.specs.Details.{numbers_of}
use Rattle.json_members.specs.Members.{put_some}
use Rattle.map_json.specs.Members.{Own, with_own}
use Rattle.map_values.specs.Arrays.{array_by, whole_tree}
use Rattle.map_json.specs.Trees.{layer_own, layer_tree, layers_tree, own_around, plain_own, properties_member, tileset_tree}
use Rattle.json_members.proofs.MembersLemmas.{same_name}

-- ---- members that are put
replaced-put_at : (o : Ordering) (k l m : List ℕ) (d e f : Data) (ms : Members) → slice_cmp nat_cmp l m ≡ o
    → replaced k d (put l e ms) ≡ put l (instead k d l e) (replaced k d ms)
    → replaced k d (match_ordering o (member l e (member m f ms)) (member m e ms) (member m f (put l e ms)))
    ≡ match_ordering o (member l (instead k d l e) (member m (instead k d m f) (replaced k d ms))) (member m (instead k d l e) (replaced k d ms))
    (member m (instead k d m f) (put l (instead k d l e) (replaced k d ms)))
replaced-put_at Less k l m d e f ms is later = refl
replaced-put_at Equal k l m d e f ms is later = ap (λ n. member m (instead k d n e) (replaced k d ms)) (sym (same_name l m is))
replaced-put_at Greater k l m d e f ms is later = ap (member m (instead k d m f)) later

pub replaced-put : (k l : List ℕ) (d e : Data) (ms : Members) → replaced k d (put l e ms) ≡ put l (instead k d l e) (replaced k d ms)
replaced-put k l d e no_members = refl
replaced-put k l d e (member m f ms) = replaced-put_at (slice_cmp nat_cmp l m) k l m d e f ms refl (replaced-put k l d e ms)

-- ---- a name that is not there
other_name : (b : Bool) (k l : List ℕ) (d e : Data) → bytes_eq l k ≡ b → bytes_eq k l ≡ false → (if b then d else e) ≡ e
other_name true k l d e is apart = absurd (false≢true (sym apart ∙ (bytes_eq-Decides k l).1 (sym ((bytes_eq-Decides l k).0 is))))
other_name false k l d e is apart = refl

replaced-absent_at : (o : Ordering) (k l : List ℕ) (d e : Data) (ms : Members) → slice_cmp nat_cmp k l ≡ o
    → match_ordering o (get_member k ms) (Some e) (get_member k ms) ≡ None → (get_member k ms ≡ None → replaced k d ms ≡ ms)
    → replaced k d (member l e ms) ≡ member l e ms
replaced-absent_at Less k l d e ms is absent later =
    rw (later absent, other_name (bytes_eq l k) k l d e refl (sym (is_eq-slice_cmp k l) ∙ ap is_eq is)) refl
replaced-absent_at Equal k l d e ms is absent later = absurd cc
replaced-absent_at Greater k l d e ms is absent later =
    rw (later absent, other_name (bytes_eq l k) k l d e refl (sym (is_eq-slice_cmp k l) ∙ ap is_eq is)) refl

pub replaced-absent : (k : List ℕ) (d : Data) (ms : Members) → get_member k ms ≡ None → replaced k d ms ≡ ms
replaced-absent k d no_members absent = refl
replaced-absent k d (member l e ms) absent = replaced-absent_at (slice_cmp nat_cmp k l) k l d e ms refl absent (replaced-absent k d ms)

-- ---- own members
own_instead : List ℕ → Data → Own → Own
own_instead k d [] = []
own_instead k d (p ∷ ps) = (p.0, option_map (instead k d p.0) p.1) ∷ own_instead k d ps

replaced-put_some : (k l : List ℕ) (d : Data) (o : Option Data) (ms : Members)
    → replaced k d (put_some l o ms) ≡ put_some l (option_map (instead k d l) o) (replaced k d ms)
replaced-put_some k l d None ms = refl
replaced-put_some k l d (Some e) ms = replaced-put k l d e ms

replaced-with_own : (k : List ℕ) (d : Data) (own : Own) (kept : Members) → replaced k d (with_own own kept) ≡ with_own (own_instead k d own) (replaced k d kept)
unfolding own_instead
replaced-with_own k d [] kept = refl
replaced-with_own k d (p ∷ ps) kept =
    replaced-put_some k p.0 d p.1 (with_own ps kept) ∙ ap (put_some p.0 (option_map (instead k d p.0) p.1)) (replaced-with_own k d ps kept)

-- ---- the map's own
optional_stays : (d : Data) (o : Option Data) → option_map (instead LAYERS.now d PROPERTIES.now) o ≡ o
optional_stays d None = refl
optional_stays d (Some e) = refl

own_instead-own_around : (d : Data) (m : MapParts) → own_instead LAYERS.now d (own_around (array no_items) m) ≡ own_around d m
unfolding own_instead
own_instead-own_around d m =
    ap (λ o. plain_own m
    ++ (LAYERS.now, Some d) ∷ (TILESETS.now, Some (array_by tileset_tree m.tilesets)) ∷ (PROPERTIES.now, o) ∷ (TYPE.now, Some (string (codes "map"))) ∷
    (VERSION.now, Some (string (codes "1.10"))) ∷ [])
    (optional_stays d (properties_member m.properties))

-- the members of a map are its frame's, with the layers in their place
pub replaced-frame_of : (d : Data) (m : MapParts) → get_member LAYERS.now m.kept ≡ None → replaced LAYERS.now d (frame_of m) ≡ with_own (own_around d m) m.kept
replaced-frame_of d m absent =
    replaced-with_own LAYERS.now d (own_around (array no_items) m) m.kept
    ∙ rw (replaced-absent LAYERS.now d m.kept absent) (ap (λ own. with_own own m.kept) (own_instead-own_around d m))

-- ---- a group's own
own_instead-layer_own : (width height : ℕ) (d : Data) (l : Layer) (b : Body) (ls : List Layer) → group_in b ≡ Some ls
    → own_instead LAYERS.now d (layer_own width height (array no_items) (record l { body = framed_body b })) ≡ layer_own width height d (record l { body = b })
unfolding own_instead
own_instead-layer_own width height d l (Group' s r) ls g =
    ap (λ o. (TYPE.now, Some (string (codes "group"))) ∷ (ID.now, Some (whole_tree l.id)) ∷ (NAME.now, Some (string l.name)) ∷
    (VISIBLE.now, Some (boolean l.visible))
    ∷ (PROPERTIES.now, o) ∷ (LAYERS.now, Some d) ∷ [])
    (optional_stays d (properties_member l.properties))
own_instead-layer_own width height d l b ls g = cc

layers_absent : (b : Body) (ls : List Layer) (kept : Members) → group_in b ≡ Some ls → Each (λ name. get_member name kept ≡ None) (layer_names b)
    → get_member LAYERS.now kept ≡ None
layers_absent (Group' s r) ls kept g h = h.1.1.1.1.1.0
layers_absent b ls kept g h = cc

-- the members of a group are its frame's, with the layers in their place
pub replaced-layer_frame : (width height : ℕ) (d : Data) (l : Layer) (ls : List Layer) → group_in l.body ≡ Some ls
    → Each (λ name. get_member name l.kept ≡ None) (layer_names l.body)
    → replaced LAYERS.now d (layer_frame width height l) ≡ with_own (layer_own width height d l) l.kept
replaced-layer_frame width height d l ls g h =
    replaced-with_own LAYERS.now d (layer_own width height (array no_items) (record l { body = framed_body l.body })) l.kept
    ∙ rw (replaced-absent LAYERS.now d l.kept (layers_absent l.body ls l.kept g h))
    (ap (λ own. with_own own l.kept) (own_instead-layer_own width height d l l.body ls g))

-- a layer's own members, where it is no group
pub layer_own-other : (width height : ℕ) (d e : Data) (l : Layer) (b : Body) → group_in b ≡ None
    → layer_own width height d (record l { body = b }) ≡ layer_own width height e (record l { body = b })
layer_own-other width height d e l (Group' s r) g = cc
layer_own-other width height d e l b g = refl

-- ---- a tile layer's own numbers
-- where its values are no numbers, all of a body stands in its frame
framed_body-whole : (b : Body) → numbers_of b ≡ None → framed_body b ≡ b
framed_body-whole (Tiles Array cells) none = cc
framed_body-whole b none = refl

pub framed-whole : (l : Layer) → numbers_of l.body ≡ None → record l { body = framed_body l.body } ≡ l
framed-whole l none = ap (λ (b : Body). record l { body = b }) (framed_body-whole l.body none)

properties_stay : (d : Data) (o : Option Data) → option_map (instead DATA.now d PROPERTIES.now) o ≡ o
properties_stay d None = refl
properties_stay d (Some e) = refl

own_instead-numbers : (width height : ℕ) (d : Data) (l : Layer) (b : Body) (ns : List ℕ) → numbers_of b ≡ Some ns
    → own_instead DATA.now (array_by whole_tree ns) (layer_own width height (array no_items) (record l { body = framed_body b }))
    ≡ layer_own width height d (record l { body = b })
unfolding own_instead
own_instead-numbers width height d l (Tiles Array cells) ns g =
    let same : cells ≡ ns = cc in
    ap (λ o. (TYPE.now, Some (string (codes "tilelayer"))) ∷ (ID.now, Some (whole_tree l.id)) ∷ (NAME.now, Some (string l.name)) ∷
    (VISIBLE.now, Some (boolean l.visible))
    ∷ (PROPERTIES.now, o) ∷ (ENCODING.now, None) ∷ (COMPRESSION.now, None) ∷ (WIDTH.now, Some (whole_tree width)) ∷ (HEIGHT.now, Some (whole_tree height))
    ∷ (DATA.now, Some (array_by whole_tree ns)) ∷ [])
    (properties_stay (array_by whole_tree ns) (properties_member l.properties))
    ∙ ap (λ (xs : List ℕ). layer_own width height d (record l { body = Tiles Array xs })) (sym same)
own_instead-numbers width height d l b ns g = cc

data_absent : (b : Body) (ns : List ℕ) (kept : Members) → numbers_of b ≡ Some ns → Each (λ name. get_member name kept ≡ None) (layer_names b)
    → get_member DATA.now kept ≡ None
data_absent (Tiles Array cells) ns kept g h = h.1.1.1.1.1.1.1.1.1.0
data_absent b ns kept g h = cc

-- the members of a tile layer are its frame's, with the numbers in their place
replaced-numbers : (width height : ℕ) (d : Data) (l : Layer) (ns : List ℕ) → numbers_of l.body ≡ Some ns
    → Each (λ name. get_member name l.kept ≡ None) (layer_names l.body)
    → replaced DATA.now (array_by whole_tree ns) (layer_frame width height l) ≡ with_own (layer_own width height d l) l.kept
replaced-numbers width height d l ns g h =
    let values = array_by whole_tree ns in
    replaced-with_own DATA.now values (layer_own width height (array no_items) (record l { body = framed_body l.body })) l.kept
    ∙ rw (replaced-absent DATA.now values l.kept (data_absent l.body ns l.kept g h))
    (ap (λ own. with_own own l.kept) (own_instead-numbers width height d l l.body ns g))

-- ---- the tree of a layer
-- it is its frame's with its numbers
pub layer_tree-numbers : (groups width height : ℕ) (l : Layer) (ns : List ℕ) → numbers_of l.body ≡ Some ns
    → Each (λ name. get_member name l.kept ≡ None) (layer_names l.body)
    → object (replaced DATA.now (array_by whole_tree ns) (layer_frame width height l)) ≡ layer_tree groups width height l
unfolding layer_tree
layer_tree-numbers zero width height l ns g h = ap object (replaced-numbers width height (array no_items) l ns g h)
layer_tree-numbers (suc groups) width height l ns g h = ap object (replaced-numbers width height (layers_tree groups width height (inside l)) l ns g h)

layer_frame-whole : (width height : ℕ) (l : Layer) → numbers_of l.body ≡ None
    → object (layer_frame width height l) ≡ object (with_own (layer_own width height (array no_items) l) l.kept)
layer_frame-whole width height l none = ap (λ (k : Layer). object (with_own (layer_own width height (array no_items) k) l.kept)) (framed-whole l none)

-- it is its frame's, where it has no numbers, and is no group or has no room for layers in it
pub layer_tree-frame : (groups width height : ℕ) (l : Layer) → numbers_of l.body ≡ None → group_in l.body ≡ None
    → object (layer_frame width height l) ≡ layer_tree groups width height l
unfolding layer_tree
layer_tree-frame zero width height l none g = layer_frame-whole width height l none
layer_tree-frame (suc groups) width height l none g =
    layer_frame-whole width height l none ∙ ap (λ own. object (with_own own l.kept))
    (layer_own-other width height (array no_items) (layers_tree groups width height (inside l)) l l.body g)

pub layer_tree-groups : (groups width height : ℕ) (l : Layer) → numbers_of l.body ≡ None → groups ≡ 0
    → object (layer_frame width height l) ≡ layer_tree groups width height l
unfolding layer_tree
layer_tree-groups groups width height l none no_groups = rw no_groups (layer_frame-whole width height l none)

-- the tree of a group
pub layer_tree-group : (groups less width height : ℕ) (l : Layer) (ls : List Layer) → groups ≡ suc less → group_in l.body ≡ Some ls
    → Each (λ name. get_member name l.kept ≡ None) (layer_names l.body)
    → object (replaced LAYERS.now (layers_tree less width height ls) (layer_frame width height l)) ≡ layer_tree groups width height l
unfolding layer_tree
layer_tree-group groups less width height l ls more g h =
    ap object (replaced-layer_frame width height (layers_tree less width height ls) l ls g h)
    ∙ (ap (λ o. object (with_own (layer_own width height (layers_tree less width height (or_empty o)) l) l.kept)) (sym g)
    ∙ ap (λ n. layer_tree n width height l) (sym more))
