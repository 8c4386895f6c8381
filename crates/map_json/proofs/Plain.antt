-- What is written has whole numbers alone, and nests no deeper than a reader allows.
use Rattle.std.proofs.Common.{◌≡◌, ℕ, zero, suc, ◌+◌, ◌-◌, ◌*◌, ◌≤◌, ℤ, pos, negsuc, List, [], ◌∷◌, Option, Some, None, Ordering, Less, Equal, Greater, nat_cmp}
use Rattle.std.proofs.Common.{◌++◌, Bool, false, refl, subst, arith}
use Rattle.std.specs.Prelude.{codes}
use Rattle.std.specs.Option.{option_map}
use Rattle.std.specs.Cmp.Lexicographic.{slice_cmp}
use Rattle.std.specs.Ordering.{match_ordering}
use Rattle.serde_json.specs.Data.{Data, boolean, number, string, array, object, no_items, Items, Members, no_members, member, put, depth, items_depth}
use Rattle.serde_json.specs.Data.{members_depth}
use Rattle.serde_json.specs.Find.{of_integer}
use Rattle.serde_json.specs.Written.{has_float, items_have_float, members_have_float}
use Rattle.map_model.specs.declared.limits.TheConstants.{MAX_DEPTH, MAX_GROUPS}
use Rattle.map_model.specs.declared.parts.Encoding.{Encoding}
use Rattle.map_model.specs.declared.parts.Encoding.TheVariants.{Array, Base64}
use Rattle.map_model.specs.declared.parts.PropValue.{PropValue}
use Rattle.map_model.specs.declared.parts.PropValue.TheVariants as values
use Rattle.map_model.specs.declared.parts.Property.{Property}
use Rattle.map_model.specs.declared.parts.Object.{Object}
use Rattle.map_model.specs.declared.parts.Body.{Body}
use Rattle.map_model.specs.declared.parts.Body.TheVariants.{Tiles, Objects, Other, Group'}
use Rattle.map_model.specs.declared.parts.Layer.{Layer}
use Rattle.map_model.specs.declared.parts.Tileset.{Tileset}
use Rattle.map_model.specs.declared.parts.MapParts.{MapParts}
use Rattle.map_model.specs.Groups.{drawn, inside, tree}
use Rattle.map_model.specs.Lists.{Each}
use Rattle.map_model.specs.Keeping.{AreKept, deepest_tier, inner_tier, map_tier, layer_tier, tileset_tier, object_tier, property_tier}
use Rattle.map_model.specs.Format.{tileset_names}
use Rattle.map_model.specs.Format.{object_names, property_names, layer_names, map_names}
use Rattle.map_model.specs.WellFormed.{IsValue, IsProperty, AreProperties, IsObject, IsBody, IsDrawn, IsLayer, IsTileset, IsWellFormed}
use Rattle.map_model.proofs.GroupBodies.{IsLayer-without}
use Rattle.json_members.specs.Members.{put_some}
use Rattle.map_json.specs.Members.{with_own}
use Rattle.map_values.specs.Arrays.{items_by, array_by, whole_tree}
use Rattle.map_json.specs.Trees.{value_tree, property_own, property_tree, properties_member, object_own, object_tree}
use Rattle.map_json.specs.Trees.{tileset_own, tileset_tree, cells_tree, encoding_member, body_own, layer_own, layer_tree, layers_tree, own_around, tree_of}
use Rattle.map_json.specs.Trees.{lists_own, plain_own, said_own, type_word}
use Rattle.map_json.specs.Appending.{AreWritten, frame_of, framed_body, layer_frame}
use Rattle.map_values.proofs.Lists.{Each-left, Each-right}
use Rattle.map_json.proofs.DrawnLayers.{tree-Each}
use Rattle.map_json.proofs.Own.{put_whole}

-- each number is whole, and nothing is more than n deep
abbrev pub IsPlain : ℕ → Data → Type 0
IsPlain n d = (has_float d ≡ false) × (depth d ≤ n)

abbrev ArePlainItems : ℕ → Items → Type 0
ArePlainItems n ds = (items_have_float ds ≡ false) × (items_depth ds ≤ n)

abbrev ArePlain : ℕ → Members → Type 0
ArePlain n ms = (members_have_float ms ≡ false) × (members_depth ms ≤ n)

abbrev pub IsPlainOwn : ℕ → Option Data → Type 0
IsPlainOwn n None = Unit {0}
IsPlainOwn n (Some d) = IsPlain n d

abbrev pub ArePlainOwn : ℕ → List (List ℕ × Option Data) → Type 0
ArePlainOwn n [] = Unit {0}
ArePlainOwn n (p ∷ ps) = IsPlainOwn n p.1 × ArePlainOwn n ps

-- ---- members that are put
put_depth_at : (o : Ordering) (n : ℕ) (k l : List ℕ) (d e : Data) (ms rest : Members) → depth d ≤ n → depth e ≤ n → members_depth ms ≤ n
    → members_depth rest ≤ n
    → members_depth (match_ordering o (member k d (member l e ms)) (member l d ms) (member l e rest)) ≤ n
put_depth_at Less n k l d e ms rest hd he h g = omega arith
put_depth_at Equal n k l d e ms rest hd he h g = omega arith
put_depth_at Greater n k l d e ms rest hd he h g = omega arith

members_depth-put : (n : ℕ) (k : List ℕ) (d : Data) (ms : Members) → depth d ≤ n → members_depth ms ≤ n → members_depth (put k d ms) ≤ n
members_depth-put n k d no_members hd h = omega arith
members_depth-put n k d (member l e ms) hd h = put_depth_at (slice_cmp nat_cmp k l) n k l d e ms (put k d ms) hd (omega arith) (omega arith)
    (members_depth-put n k d ms hd (omega arith))

put_plain : (n : ℕ) (k : List ℕ) (o : Option Data) (ms : Members) → IsPlainOwn n o → ArePlain n ms → ArePlain n (put_some k o ms)
put_plain n k None ms h g = g
put_plain n k (Some d) ms h g = (put_whole k d ms h.0 g.0, members_depth-put n k d ms h.1 g.1)

with_own_plain : (n : ℕ) (t : List (List ℕ × Option Data)) (kept : Members) → ArePlainOwn n t → ArePlain n kept → ArePlain n (with_own t kept)
with_own_plain n [] kept h g = g
with_own_plain n (p ∷ ps) kept h g = put_plain n p.0 p.1 (with_own ps kept) h.0 (with_own_plain n ps kept h.1 g)

pub object_plain : (n : ℕ) (t : List (List ℕ × Option Data)) (kept : Members) → ArePlainOwn n t → ArePlain n kept → IsPlain (suc n) (object (with_own t kept))
object_plain n t kept h g = let all = with_own_plain n t kept h g in (all.0, omega arith)

pub kept_plain : (tier n : ℕ) (names : List (List ℕ)) (ms : Members) → tier + n ≡ MAX_DEPTH → AreKept tier names ms → ArePlain n ms
kept_plain tier n names ms room h = let deep = h.shallow in (h.whole, omega arith)

-- ---- scalars and lists
pub text_plain : (n : ℕ) (s : List ℕ) → IsPlain n (string s)
text_plain n s = (refl, omega arith)

pub truth_plain : (n : ℕ) (b : Bool) → IsPlain n (boolean b)
truth_plain n b = (refl, omega arith)

pub whole_plain : (n k : ℕ) → IsPlain n (whole_tree k)
whole_plain n k = (refl, omega arith)

integer_plain : (n : ℕ) (z : ℤ) → IsPlain n (number (of_integer z))
integer_plain n (pos k) = (refl, omega arith)
integer_plain n (negsuc k) = (refl, omega arith)

optional_plain : {A : Type 0} (n : ℕ) (f : A → Data) → ((x : A) → IsPlain n (f x)) → (o : Option A) → IsPlainOwn n (option_map f o)
optional_plain n f plain None = tt
optional_plain n f plain (Some x) = plain x

module _ {A : Type 0} (P : A → Type 0) (n : ℕ) (f : A → Data) (plain : (x : A) → P x → IsPlain n (f x)) where
  items_plain : (xs : List A) → Each P xs → ArePlainItems n (items_by f xs)
  items_plain [] h = (refl, omega arith)
  items_plain (x ∷ xs) h =
      let one = plain x h.0 in
      let more = items_plain xs h.1 in
      let a = one.1 in
      let b = more.1 in
      (rw (one.0, more.0) refl, omega arith)

  pub array_plain : (xs : List A) → Each P xs → IsPlain (suc n) (array_by f xs)
  array_plain xs h = let all = items_plain xs h in let deep = all.1 in (all.0, omega arith)

-- ---- owners
value_plain : (tier n : ℕ) (v : PropValue) → tier + n ≡ MAX_DEPTH → IsValue tier v → IsPlain n (value_tree v)
value_plain tier n (values.Text s) room h = text_plain n s
value_plain tier n (values.Whole z) room h = integer_plain n z
value_plain tier n (values.Truth b) room h = truth_plain n b
value_plain tier n (values.Other d) room h = let deep = h.shallow in (h.whole, omega arith)

pub property_plain : (tier n : ℕ) → tier + n ≡ MAX_DEPTH → (p : Property) → IsProperty tier p → IsPlain (suc n) (property_tree p)
unfolding property_tree
property_plain tier n room p h =
    object_plain n (property_own p) p.kept (text_plain n p.name, (text_plain n p.kind, (value_plain tier n p.value room h.value, tt)))
    (kept_plain tier n property_names p.kept room h.kept)

pub properties_plain : (tier n : ℕ) → property_tier tier + n ≡ MAX_DEPTH → (ps : List Property) → AreProperties tier ps
    → IsPlainOwn (suc (suc n)) (properties_member ps)
properties_plain tier n room [] h = tt
properties_plain tier n room (p ∷ ps) h = array_plain (IsProperty (property_tier tier)) (suc n) property_tree (property_plain (property_tier tier) n room)
    (p ∷ ps) h.each

pub object_tree_plain : (tier n : ℕ) → property_tier tier + n ≡ MAX_DEPTH → (o : Object) → IsObject tier o → IsPlain (suc (suc (suc n))) (object_tree o)
unfolding object_tree
object_tree_plain tier n room o h =
    let m = suc (suc n) in
    let pixels = optional_plain m (λ z. number (of_integer z)) (integer_plain m) in
    object_plain m (object_own o) o.kept (
      whole_plain m o.id,
      (
        pixels o.placing.x,
        (
          pixels o.placing.y,
          (
            pixels o.placing.width,
            (
              pixels o.placing.height,
              (
                optional_plain m string (text_plain m) o.name,
                (
                  optional_plain m boolean (truth_plain m) o.visible,
                  (optional_plain m whole_tree (whole_plain m) o.gid, (properties_plain tier n room o.properties h.properties, tt)),
                ),
              ),
            ),
          ),
        ),
      ),
    )
    (kept_plain tier m object_names o.kept (omega arith) h.kept)

pub tileset_plain : (t : Tileset) → IsTileset t → IsPlain 125 (tileset_tree t)
unfolding tileset_tree
tileset_plain t h = object_plain 124 (tileset_own t) t.kept (whole_plain 124 t.first_id, (optional_plain 124 string (text_plain 124) t.source, tt))
    (kept_plain tileset_tier 124 tileset_names t.kept refl h.kept)

numbers_plain : (n : ℕ) (ns : List ℕ) → ArePlainItems n (items_by whole_tree ns)
numbers_plain n [] = (refl, omega arith)
numbers_plain n (k ∷ ks) = let more = numbers_plain n ks in let deep = more.1 in (more.0, omega arith)

cells_plain : (n : ℕ) (e : Encoding) (cells : List ℕ) → IsPlain (suc n) (cells_tree e cells)
cells_plain n Array cells = let all = numbers_plain n cells in let deep = all.1 in (all.0, omega arith)
cells_plain n Base64 cells = (refl, omega arith)

encoding_plain : (n : ℕ) (e : Encoding) → IsPlainOwn n (encoding_member e)
encoding_plain n Array = tt
encoding_plain n Base64 = text_plain n (codes "base64")

body_plain : (tier n size width height : ℕ) → property_tier (object_tier tier) + n ≡ MAX_DEPTH → (d : Data) → IsPlain (suc (suc (suc (suc n)))) d
    → (b : Body) → IsBody tier size b
    → ArePlainOwn (suc (suc (suc (suc n)))) (body_own width height d b)
body_plain tier n size width height room d layers (Tiles e cells) h =
    let m = suc (suc (suc (suc n))) in
    (encoding_plain m e, (tt, (whole_plain m width, (whole_plain m height, (cells_plain (suc (suc (suc n))) e cells, tt)))))
body_plain tier n size width height room d layers (Objects os) h =
    (array_plain (IsObject (object_tier tier)) (suc (suc (suc n))) object_tree (object_tree_plain (object_tier tier) n room) os h.1, tt)
body_plain tier n size width height room d layers Other h = tt
body_plain tier n size width height room d layers (Group' s r) h = (layers, tt)

-- what stands in a layer's frame, with this for the layers of a group
framed_plain : (tier n size width height : ℕ) → property_tier (object_tier tier) + n ≡ MAX_DEPTH → (d : Data) → IsPlain (suc (suc (suc (suc n)))) d
    → (b : Body) → IsBody tier size b
    → ArePlainOwn (suc (suc (suc (suc n)))) (body_own width height d (framed_body b))
framed_plain tier n size width height room d layers (Tiles Array cells) h = body_plain tier n 0 width height room d layers (Tiles Array []) (refl, tt)
framed_plain tier n size width height room d layers b h = body_plain tier n size width height room d layers b h

-- the own members of a layer, with this for the layers of a group
pub own_are_plain : (tier n size width height : ℕ) → property_tier (object_tier tier) + n ≡ MAX_DEPTH → (d : Data) → IsPlain (suc (suc (suc (suc n)))) d
    → (l : Layer) → IsLayer tier size l
    → ArePlainOwn (suc (suc (suc (suc n)))) (layer_own width height d l)
own_are_plain tier n size width height room d layers l h =
    let m = suc (suc (suc (suc n))) in (
      (refl, omega arith),
      (
        whole_plain m l.id,
        (
          text_plain m l.name,
          (
            truth_plain m l.visible,
            (properties_plain tier (suc (suc n)) (omega arith) l.properties h.properties, body_plain tier n size width height room d layers l.body h.body),
          ),
        ),
      ),
    )

-- a layer, with this for the layers of a group
own_plain : (tier n size width height : ℕ) → property_tier (object_tier tier) + n ≡ MAX_DEPTH → (d : Data) → IsPlain (suc (suc (suc (suc n)))) d
    → (l : Layer) → IsLayer tier size l
    → IsPlain (suc (suc (suc (suc (suc n))))) (object (with_own (layer_own width height d l) l.kept))
own_plain tier n size width height room d layers l h =
    let m = suc (suc (suc (suc n))) in
    object_plain m (layer_own width height d l) l.kept (own_are_plain tier n size width height room d layers l h)
    (kept_plain tier m (layer_names l.body) l.kept (omega arith) h.kept)

-- ---- layers within layers
module _ (room tier n width height : ℕ) (one : (l : Layer) → Each (IsDrawn (width * height)) (tree room tier l) → IsPlain n (layer_tree room width height l))
  where
    layers_plain : (ls : List Layer) → Each (IsDrawn (width * height)) (drawn room tier ls) → ArePlainItems n (items_by (layer_tree room width height) ls)
    layers_plain [] h = (refl, omega arith)
    layers_plain (l ∷ ls) h =
        let own = one l (Each-left (IsDrawn (width * height)) (tree room tier l) (drawn room tier ls) h) in
        let more = layers_plain ls (Each-right (IsDrawn (width * height)) (tree room tier l) (drawn room tier ls) h) in
        let a = own.1 in
        let b = more.1 in
        (rw (own.0, more.0) refl, omega arith)

pub own_IsLayer : (room tier size : ℕ) (l : Layer) → Each (IsDrawn size) (tree room tier l) → IsLayer tier size l
own_IsLayer room tier size l h = IsLayer-without (λ ls. []) tier size l (tree-Each (IsDrawn size) room tier l h).0

layer_plain : (room tier n width height : ℕ) → tier + 2 * room ≡ deepest_tier → property_tier (object_tier tier) + n ≡ MAX_DEPTH → (l : Layer)
    → Each (IsDrawn (width * height)) (tree room tier l)
    → IsPlain (suc (suc (suc (suc (suc n))))) (layer_tree room width height l)
unfolding layer_tree
layer_plain zero tier n width height balance deep l h = own_plain tier n (width * height) width height deep (array no_items) (refl, omega arith) l
    (own_IsLayer 0 tier (width * height) l h)
layer_plain (suc room) tier n width height balance deep l h =
    let m = n - 2 in
    let long : suc (suc (suc (suc (suc m)))) ≡ suc (suc (suc n)) = omega (arith, balance, deep) in
    let one = λ (k : Layer) (g : Each (IsDrawn (width * height)) (tree room (inner_tier tier) k)).
    subst (λ i. IsPlain i (layer_tree room width height k)) long
    (layer_plain room (inner_tier tier) m width height (omega (arith, balance)) (omega (arith, balance, deep)) k g) in
    let items = layers_plain room (inner_tier tier) (suc (suc (suc n))) width height one (inside l)
    (tree-Each (IsDrawn (width * height)) (suc room) tier l h).1 in
    let below = items.1 in
    own_plain tier n (width * height) width height deep (layers_tree room width height (inside l)) (items.0, omega (arith, below)) l
    (own_IsLayer (suc room) tier (width * height) l h)

-- layers of a map, where so many groups may still stand in one another
AreWritten-plain : (room width height : ℕ) (ls : List Layer) → AreWritten room (width * height) ls → IsPlain 126 (layers_tree room width height ls)
AreWritten-plain room width height ls h =
    let n = 123 - h.tier in
    let items = layers_plain room h.tier (suc (suc (suc (suc (suc n))))) width height
    (layer_plain room h.tier n width height h.balance (omega (arith, h.balance))) ls h.each in
    let deep = items.1 in
    (items.0, omega (arith, h.balance, h.high, deep))

-- the frame of one of them
framed_own_plain : (tier n size width height : ℕ) → property_tier (object_tier tier) + n ≡ MAX_DEPTH → (l : Layer) → IsLayer tier size l
    → ArePlainOwn (suc (suc (suc (suc n)))) (layer_own width height (array no_items) (record l { body = framed_body l.body }))
framed_own_plain tier n size width height room l h =
    let m = suc (suc (suc (suc n))) in (
      text_plain m (type_word (framed_body l.body)),
      (
        whole_plain m l.id,
        (
          text_plain m l.name,
          (
            truth_plain m l.visible,
            (
              properties_plain tier (suc (suc n)) (omega arith) l.properties h.properties,
              framed_plain tier n size width height room (array no_items) (refl, omega arith) l.body h.body,
            ),
          ),
        ),
      ),
    )

pub layer_frame_plain : (room width height : ℕ) (l : Layer) → AreWritten room (width * height) (l ∷ []) → IsPlain 127 (object (layer_frame width height l))
layer_frame_plain room width height l h =
    let n = 123 - h.tier in
    let m = suc (suc (suc (suc n))) in
    let own = own_IsLayer room h.tier (width * height) l (Each-left (IsDrawn (width * height)) (tree room h.tier l) [] h.each) in
    let all = framed_own_plain h.tier n (width * height) width height (omega (arith, h.balance)) l own in
    let frame = object_plain m (layer_own width height (array no_items) (record l { body = framed_body l.body })) l.kept all
    (kept_plain h.tier m (layer_names l.body) l.kept (omega (arith, h.balance)) own.kept) in
    let deep = frame.1 in
    (frame.0, omega (arith, h.balance, h.high, deep))

-- the layers of a well-formed map
pub layers_AreWritten : (m : MapParts) → IsWellFormed m → AreWritten MAX_GROUPS (m.width * m.height) m.layers
layers_AreWritten m h = record { tier = layer_tier; high = omega arith; balance = refl; each = h.layers.each }

map_layers_plain : (m : MapParts) → IsWellFormed m → IsPlain 126 (layers_tree MAX_GROUPS m.width m.height m.layers)
map_layers_plain m h = AreWritten-plain MAX_GROUPS m.width m.height m.layers (layers_AreWritten m h)

-- its own members that are no lists, before others
pub before_plain : (m : MapParts) (t : List (List ℕ × Option Data)) → ArePlainOwn 126 t → ArePlainOwn 126 (plain_own m ++ t)
before_plain m t h =
    let whole = whole_plain 126 in (
      whole m.width,
      (whole m.height, (whole m.tile_width, (whole m.tile_height, (truth_plain 126 false, (whole m.next_layer_id, (whole m.next_object_id, h)))))),
    )

-- its properties, and what says that it is a map
pub said_plain : (m : MapParts) → IsWellFormed m → ArePlainOwn 126 (said_own m)
said_plain m h = (properties_plain map_tier 124 refl m.properties h.properties, (text_plain 126 (codes "map"), (text_plain 126 (codes "1.10"), tt)))

-- its members, with this for its layers
around_plain : (d : Data) (m : MapParts) → IsPlain 126 d → IsWellFormed m → IsPlain 127 (object (with_own (own_around d m) m.kept))
around_plain d m layers h =
    let tilesets = array_plain IsTileset 125 tileset_tree tileset_plain m.tilesets h.tilesets.each in
    object_plain 126 (own_around d m) m.kept (before_plain m (lists_own d m) (layers, (tilesets, said_plain m h)))
    (kept_plain map_tier 126 map_names m.kept refl h.kept)

-- the tree of a well-formed map
pub tree_plain : (m : MapParts) → IsWellFormed m → IsPlain 127 (tree_of m)
unfolding tree_of
tree_plain m h = around_plain (layers_tree MAX_GROUPS m.width m.height m.layers) m (map_layers_plain m h) h

-- and its frame
pub frame_plain : (m : MapParts) → IsWellFormed m → IsPlain 127 (object (frame_of m))
frame_plain m h = around_plain (array no_items) m (refl, omega arith) h
