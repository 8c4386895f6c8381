-- What is written of a layer in an outline, and in either detail.
use Rattle.std.proofs.Common.{◌≡◌, ℕ, zero, suc, ◌-◌, ◌*◌, List, [], ◌∷◌, ◌++◌, Some, None, cond, Bool, true, false, refl, sym, ap, ◌∙◌, arith}
use Rattle.std.specs.Prelude.{filter, not, Option}
use Rattle.std.specs.Str.{bytes_eq}
use Rattle.serde_json.specs.Data.{Data, Members, array, object, no_items}
use Rattle.serde_json.specs.Find.{get_member}
use Rattle.map_model.specs.declared.names.TheConstants.{DATA, LAYERS}
use Rattle.map_model.specs.declared.parts.Body.{Body}
use Rattle.map_model.specs.declared.parts.Body.TheVariants.{Tiles}
use Rattle.map_model.specs.declared.parts.Encoding.{Encoding}
use Rattle.map_model.specs.declared.parts.Layer.{Layer}
use Rattle.map_model.specs.Bodies.{IsTiles}
use Rattle.map_model.specs.Groups.{group_in, inside, tree}
use Rattle.map_model.specs.Format.{layer_names}
use Rattle.map_model.specs.Lists.{Each, or_empty}
use Rattle.map_model.specs.WellFormed.{IsDrawn}
use Rattle.map_json.specs.declared.detail.Detail.{Detail}
use Rattle.map_json.specs.declared.detail.Detail.TheVariants.{Whole, Outline}
use Rattle.map_json.specs.Appending.{AreWritten, layer_frame, replaced}
use Rattle.map_json.specs.Details.{frame_in, layer_in, layers_in, numbers_in, numbers_of, outline_frame, shape_own}
use Rattle.map_json.specs.Members.{Own, with_own}
use Rattle.map_json.specs.Outlines.{outline_layer, outline_own}
use Rattle.map_values.specs.Arrays.{array_by, whole_tree}
use Rattle.map_json.specs.Trees.{common_own, layer_own}
use Rattle.map_values.proofs.Lists.{Each-left}
use Rattle.map_json.proofs.Frames.{framed-whole, layer_own-other, layer_tree-frame, layer_tree-group, layer_tree-numbers, layer_tree-groups}
use Rattle.map_json.proofs.Frames.{replaced-layer_frame}
use Rattle.map_json.proofs.Plain.{ArePlainOwn, IsPlain, IsPlainOwn, kept_plain, layer_frame_plain, object_plain, own_are_plain, own_IsLayer}

-- ---- the own members in an outline
-- of a layer that is no tile layer they are all
pub outline_own-other : (width height : ℕ) (d : Data) (l : Layer) (b : Body) → (IsTiles b → ⊥)
    → outline_own width height d (record l { body = b }) ≡ layer_own width height d (record l { body = b })
outline_own-other width height d l (Tiles e cells) h = absurd (h tt)
outline_own-other width height d l b h = refl

-- of a tile layer they are all but the values
pub outline_own-tiles : (width height : ℕ) (d : Data) (l : Layer) (b : Body) (e : Encoding) (cells : List ℕ) → b ≡ Tiles e cells
    → outline_own width height d (record l { body = b }) ≡ common_own (record l { body = b }) ++ shape_own width height e
outline_own-tiles width height d l (Tiles f values) e cells is =
    let same : f ≡ e = cc in
    ap (λ (x : Encoding). common_own (record l { body = Tiles f values }) ++ shape_own width height x) same
outline_own-tiles width height d l b e cells is = absurd (let worse : ⊥ = cc in worse)

no_numbers : (b : Body) → (IsTiles b → ⊥) → numbers_of b ≡ None
no_numbers (Tiles e cells) h = absurd (h tt)
no_numbers b h = refl

-- of a layer that is no tile layer the whole frame stands in an outline
pub outline_frame-other : (width height : ℕ) (l : Layer) → (IsTiles l.body → ⊥) → layer_frame width height l ≡ outline_frame width height l
outline_frame-other width height l h =
    ap (λ (k : Layer). with_own (layer_own width height (array no_items) k) l.kept) (framed-whole l (no_numbers l.body h))
    ∙ sym (ap (λ (own : Own). with_own own l.kept) (outline_own-other width height (array no_items) l l.body h))

no_tiles : (b : Body) (ls : List Layer) → group_in b ≡ Some ls → IsTiles b → ⊥
no_tiles (Tiles e cells) ls g = absurd (let worse : ⊥ = cc in worse)
no_tiles b ls g = λ t. t

-- ---- numbers and depths
filter_plain_at : (b : Bool) (n : ℕ) (x : List ℕ × Option Data) (rest : Own) → IsPlainOwn n x.1 → ArePlainOwn n rest → ArePlainOwn n (cond b (x ∷ rest) rest)
filter_plain_at true n x rest h g = (h, g)
filter_plain_at false n x rest h g = g

filter_plain : (n : ℕ) (p : (List ℕ × Option Data) → Bool) (t : Own) → ArePlainOwn n t → ArePlainOwn n (filter p t)
filter_plain n p [] h = tt
filter_plain n p (x ∷ t) h = filter_plain_at (p x) n x (filter p t) h.0 (filter_plain n p t h.1)

outline_frame_plain : (groups width height : ℕ) (l : Layer) → AreWritten groups (width * height) (l ∷ []) → IsPlain 127 (object (outline_frame width height l))
outline_frame_plain groups width height l h =
    let n = 123 - h.tier in
    let m = suc (suc (suc (suc n))) in
    let own = own_IsLayer groups h.tier (width * height) l (Each-left (IsDrawn (width * height)) (tree groups h.tier l) [] h.each) in
    let all = own_are_plain h.tier n (width * height) width height (omega (arith, h.balance)) (array no_items) (refl, omega arith) l own in
    let some = filter_plain m (λ p. not (bytes_eq p.0 DATA.now)) (layer_own width height (array no_items) l) all in
    let frame = object_plain m (outline_own width height (array no_items) l) l.kept some
    (kept_plain h.tier m (layer_names l.body) l.kept (omega (arith, h.balance)) own.kept) in
    let deep = frame.1 in
    (frame.0, omega (arith, h.balance, h.high, deep))

-- ---- in either detail
pub frame_in_plain : (detail : Detail) (groups width height : ℕ) (l : Layer) → AreWritten groups (width * height) (l ∷ [])
    → IsPlain 127 (object (frame_in detail width height l))
frame_in_plain Whole groups width height l h = layer_frame_plain groups width height l h
frame_in_plain Outline groups width height l h = outline_frame_plain groups width height l h

outline_layer-frame : (groups width height : ℕ) (l : Layer) → group_in l.body ≡ None
    → object (outline_frame width height l) ≡ outline_layer groups width height l
unfolding outline_layer
outline_layer-frame zero width height l g = refl
outline_layer-frame (suc groups) width height l g =
    ap (λ (own : Own). object (with_own (filter (λ p. not (bytes_eq p.0 DATA.now)) own) l.kept))
    (layer_own-other width height (array no_items) (array_by (outline_layer groups width height) (inside l)) l l.body g)

-- the tree of a layer is its frame's, where it has no numbers, and is no group or has no room for layers in it
pub layer_in-frame : (detail : Detail) (groups width height : ℕ) (l : Layer) → numbers_in detail l.body ≡ None → group_in l.body ≡ None
    → object (frame_in detail width height l) ≡ layer_in detail groups width height l
layer_in-frame Whole groups width height l none g = layer_tree-frame groups width height l none g
layer_in-frame Outline groups width height l none g = outline_layer-frame groups width height l g

-- the tree of a layer is its frame's with its numbers
pub layer_in-numbers : (detail : Detail) (groups width height : ℕ) (l : Layer) (ns : List ℕ) → numbers_in detail l.body ≡ Some ns
    → Each (λ name. get_member name l.kept ≡ None) (layer_names l.body)
    → object (replaced DATA.now (array_by whole_tree ns) (frame_in detail width height l)) ≡ layer_in detail groups width height l
layer_in-numbers Whole groups width height l ns some h = layer_tree-numbers groups width height l ns some h
layer_in-numbers Outline groups width height l ns some h = absurd (let worse : ⊥ = cc in worse)

outline_layer-groups : (groups width height : ℕ) (l : Layer) → groups ≡ 0 → object (outline_frame width height l) ≡ outline_layer groups width height l
unfolding outline_layer
outline_layer-groups groups width height l none = rw none refl

pub layer_in-groups : (detail : Detail) (groups width height : ℕ) (l : Layer) → numbers_in detail l.body ≡ None → groups ≡ 0
    → object (frame_in detail width height l) ≡ layer_in detail groups width height l
layer_in-groups Whole groups width height l none no_groups = layer_tree-groups groups width height l none no_groups
layer_in-groups Outline groups width height l none no_groups = outline_layer-groups groups width height l no_groups

outline_layer-group : (groups less width height : ℕ) (l : Layer) (ls : List Layer) → groups ≡ suc less → group_in l.body ≡ Some ls
    → Each (λ name. get_member name l.kept ≡ None) (layer_names l.body)
    → object (replaced LAYERS.now (array_by (outline_layer less width height) ls) (outline_frame width height l)) ≡ outline_layer groups width height l
unfolding outline_layer
outline_layer-group groups less width height l ls more g h =
    let d = array_by (outline_layer less width height) ls in
    let other = no_tiles l.body ls g in
    ap (λ (ms : Members). object (replaced LAYERS.now d ms)) (sym (outline_frame-other width height l other))
    ∙ (ap object (replaced-layer_frame width height d l ls g h)
    ∙ (sym (ap (λ (own : Own). object (with_own own l.kept)) (outline_own-other width height d l l.body other))
    ∙ (ap (λ (o : Option (List Layer)). object (with_own (outline_own width height (array_by (outline_layer less width height) (or_empty o)) l) l.kept)) (sym g)
    ∙ ap (λ n. outline_layer n width height l) (sym more))))

-- the tree of a group
pub layer_in-group : (detail : Detail) (groups less width height : ℕ) (l : Layer) (ls : List Layer) → groups ≡ suc less → group_in l.body ≡ Some ls
    → Each (λ name. get_member name l.kept ≡ None) (layer_names l.body)
    → object (replaced LAYERS.now (layers_in detail less width height ls) (frame_in detail width height l)) ≡ layer_in detail groups width height l
layer_in-group Whole groups less width height l ls more g h = layer_tree-group groups less width height l ls more g h
layer_in-group Outline groups less width height l ls more g h = outline_layer-group groups less width height l ls more g h
