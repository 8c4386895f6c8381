-- Documents that are put on a canvas, and undone.
use Rattle.std.proofs.Common.{◌≡◌, ℕ, ◌+◌, ◌*◌, ℤ, ◌+ℤ◌, neg_ℤ, suc, List, [], ◌∷◌, ◌++◌, append-nil, length, map, get_or, Option, Some, None, option_map, refl}
use Rattle.std.proofs.Common.{sym, ap, ◌∙◌, subst, arith, append_assoc, length-append}
use Rattle.std.specs.List.{flat_map}
use Rattle.std.proofs.Math.IntN.{+ℤ-neg_ℤ_cancel}
use Rattle.std.proofs.Math.Seq.{get_or-append_seam}
use Rattle.std.proofs.lemmas.Int.{ints}
use Rattle.std.proofs.lemmas.List.{length-map}
use Rattle.map_model.specs.declared.canvas.Canvas.{Canvas}
use Rattle.map_model.specs.declared.limits.TheConstants.{MAX_GROUPS}
use Rattle.map_model.specs.declared.parts.Body.{Body}
use Rattle.map_model.specs.declared.parts.Body.TheVariants.{Tiles, Objects}
use Rattle.map_model.specs.declared.parts.Layer.{Layer}
use Rattle.map_model.specs.declared.parts.Object.{Object}
use Rattle.map_model.specs.declared.parts.MapParts.{MapParts}
use Rattle.std.specs.FinSet as set
use Rattle.region.specs.Cells.{cell_cmp}
use Rattle.map_model.specs.Bodies.{tiles_or_none}
use Rattle.map_model.specs.Canvas.{with_lists, lists_in, lists_of, tile_layers, body_on, cells_on, objects_on, layer_on, layers_on, map_on, with_canvas}
use Rattle.map_model.specs.Canvas.{canvas_back, IsShift, AreCells, MayBeMoved, BodyMayBeMoved, MayBeDrawn, IsCanvasOf}
use Rattle.map_model.specs.Objects.{object_moved}
use Rattle.map_model.specs.Document.{DocumentParts, IsDocument}
use Rattle.map_model.specs.Groups.{all_drawn}
use Rattle.map_model.specs.Keeping.{layer_tier, object_tier}
use Rattle.map_model.specs.Lists.{Each}
use Rattle.map_model.proofs.BodyLaws.{IsLayer-contents, object_ids-contents}
use Rattle.map_model.proofs.CanvasTrees.{Turns, back_layers, drawn_on, drawn-layers_on}
use Rattle.map_model.proofs.Listings.{Each-append, Each-prefix, Each-rest}
use Rattle.map_model.specs.WellFormed.{IsBody, IsDrawn, IsObject, ids_of, ids_of_object, object_ids_of}

-- ---- undone
number-back : (o : Option ℤ) (by : ℤ) → option_map (λ z. z +ℤ neg_ℤ by) (option_map (λ z. z +ℤ by) o) ≡ o
number-back None by = refl
number-back (Some z) by = ap Some (+ℤ-neg_ℤ_cancel z by)

objects-back : (right down : ℤ) (os : List Object) → map (object_moved (neg_ℤ right) (neg_ℤ down)) (map (object_moved right down) os) ≡ os
objects-back right down [] = refl
objects-back right down (o ∷ os) =
    λ i. record o { placing = record o.placing { x = number-back o.placing.x right i; y = number-back o.placing.y down i } } ∷ objects-back right down os i

-- what is held back of a document, behind so many lists of cells
abbrev held : Canvas → DocumentParts → List (List ℕ) → Canvas
held c d lists = record (canvas_back c d) { layers = lists }

-- a body that was put on the canvas is put back
body-back : (c : Canvas) (d : DocumentParts) → Turns (held c d) c
body-back c d prefix rest number (Tiles e own) is =
    ap (Tiles e) (ap (λ k. get_or (prefix ++ own ∷ rest) k (get_or c.layers number own)) is ∙ get_or-append_seam prefix own rest (get_or c.layers number own))
body-back c d prefix rest number (Objects os) is = ap Objects (objects-back c.right c.down os)
body-back c d prefix rest number b is = refl

layers-back : (c : Canvas) (d : DocumentParts) (ls : List Layer)
    → layers_on MAX_GROUPS (held c d (flat_map lists_of (all_drawn ls))) 0 (layers_on MAX_GROUPS c 0 ls) ≡ ls
layers-back c d ls =
    ap (λ xs. layers_on MAX_GROUPS (held c d xs) 0 (layers_on MAX_GROUPS c 0 ls)) (sym (append-nil (flat_map lists_of (all_drawn ls))))
    ∙ back_layers (held c d) c (body-back c d) MAX_GROUPS [] [] 0 ls refl

pub canvas-turned : (c : Canvas) (d : DocumentParts) → with_canvas (canvas_back c d) (with_canvas c d) ≡ d
canvas-turned c d = ap (λ ls. record d { map = record d.map { layers = ls } }) (layers-back c d d.map.layers)

-- ---- the cells of the canvas are those of the tile layers
lists-laid : (c : Canvas) (prefix rest : List (List ℕ)) (number : ℕ) (ls : List (ℕ × Layer)) → c.layers ≡ prefix ++ rest → number ≡ length prefix
    → length rest ≡ length (flat_map lists_of ls) → flat_map lists_of (drawn_on c number ls) ≡ rest
lists-laid c prefix [] number [] held is count = refl
lists-laid c prefix (cells ∷ rest) number [] held is count = absurd (omega arith)
lists-laid c prefix rest number (l ∷ ls) held is count = by_body l.1.body rest held count
    (λ next more. lists-laid c next more (number + length (lists_of l)) ls)
  where
    by_body : (b : Body) (rest : List (List ℕ)) → c.layers ≡ prefix ++ rest → length rest ≡ length (lists_in b ++ flat_map lists_of ls)
        → ((next more : List (List ℕ)) → c.layers ≡ next ++ more → number + length (lists_in b) ≡ length next → length more ≡ length (flat_map lists_of ls)
        → flat_map lists_of (drawn_on c (number + length (lists_in b)) ls) ≡ more)
        → lists_in (body_on c number b) ++ flat_map lists_of (drawn_on c (number + length (lists_in b)) ls) ≡ rest
    by_body (Tiles e own) [] at many later = absurd (omega arith)
    by_body (Tiles e own) (cells ∷ more) at many later =
        let first : get_or c.layers number own ≡ cells =
        ap (λ xs. get_or xs number own) at ∙ ap (λ k. get_or (prefix ++ cells ∷ more) k own) is ∙ get_or-append_seam prefix cells more own in
        let next : number + 1 ≡ length (prefix ++ cells ∷ []) = omega (arith, length-append prefix (cells ∷ [])) in
        λ i. first i ∷ later (prefix ++ cells ∷ []) more (at ∙ sym (append_assoc prefix (cells ∷ []) more)) next (omega arith) i
    by_body b more at many later = later prefix more at (omega arith) many

pub tile_layers-on : (c : Canvas) (m : MapParts) → length c.layers ≡ length (tile_layers m) → tile_layers (map_on c m) ≡ c.layers
tile_layers-on c m count = ap (flat_map lists_of) (drawn-layers_on MAX_GROUPS c layer_tier 0 m.layers)
    ∙ lists-laid c [] c.layers 0 (all_drawn m.layers) refl refl count

-- ---- what stays of a layer
object_ids-moved : (right down : ℤ) (os : List Object) → flat_map ids_of_object (map (object_moved right down) os) ≡ flat_map ids_of_object os
object_ids-moved right down [] = refl
object_ids-moved right down (o ∷ os) = ap (λ ids. o.id ∷ ids) (object_ids-moved right down os)

flat-on : (c : Canvas) (g : ℕ × Layer → List ℕ) → ((number : ℕ) (d : ℕ × Layer) → g (d.0, layer_on c number d.1) ≡ g d) → (number : ℕ) (ls : List (ℕ × Layer))
    → flat_map g (drawn_on c number ls) ≡ flat_map g ls
flat-on c g same number [] = refl
flat-on c g same number (l ∷ ls) = λ i. same number l i ++ flat-on c g same (number + length (lists_of l)) ls i

-- ---- well formed on the canvas
objects-on : (right down : ℤ) (tier : ℕ) (os : List Object) → Each (IsObject tier) os → Each (MayBeMoved right down) os
    → Each (IsObject tier) (map (object_moved right down) os)
objects-on right down tier [] h may = tt
objects-on right down tier (o ∷ os) h may =
    (record { placing = may.0; name = h.0.name; gid = h.0.gid; properties = h.0.properties; kept = h.0.kept }, objects-on right down tier os h.1 may.1)

AreCells-on : (c : Canvas) (number size : ℕ) (b : Body) → Each (AreCells size) (lists_in (body_on c number b)) → (own : List ℕ) → tiles_or_none b ≡ Some own
    → AreCells size (cells_on c number own)
AreCells-on c number size (Tiles e cells) h own is = let same : cells ≡ own = cc in subst (λ (vs : List ℕ). AreCells size (cells_on c number vs)) same h.0
AreCells-on c number size b h own is = cc

layers-on : (c : Canvas) (number old size : ℕ) (ds : List (ℕ × Layer)) → Each (IsDrawn old) ds → Each (MayBeDrawn c.right c.down) ds
    → Each (AreCells size) (flat_map lists_of (drawn_on c number ds)) → Each (IsDrawn size) (drawn_on c number ds)
layers-on c number old size [] h may cells = tt
layers-on c number old size (d ∷ ds) h may cells =
    let l = d.1 in
    let own = Each-prefix (AreCells size) (lists_in (body_on c number l.body)) (flat_map lists_of (drawn_on c (number + length (lists_of d)) ds)) cells in
    let rest = Each-rest (AreCells size) (lists_in (body_on c number l.body)) (flat_map lists_of (drawn_on c (number + length (lists_of d)) ds)) cells in (
      IsLayer-contents (cells_on c number) (objects_on c) d.0 old size l (λ cells e k. AreCells-on c number size l.body own cells e)
          (λ os e k. (rw (length-map os (object_moved c.right c.down)) k.0, objects-on c.right c.down (object_tier d.0) os k.1 (rw e at may.0))) h.0,
      layers-on c (number + length (lists_of d)) old size ds h.1 may.1 rest,
    )

length-drawn_on : (c : Canvas) (number : ℕ) (ds : List (ℕ × Layer)) → length (drawn_on c number ds) ≡ length ds
length-drawn_on c number [] = refl
length-drawn_on c number (d ∷ ds) = ap suc (length-drawn_on c (number + length (lists_of d)) ds)

pub on-IsDocument : (c : Canvas) (d : DocumentParts) → IsCanvasOf d c → IsDocument d → IsDocument (with_canvas c d)
on-IsDocument c d fits h =
    let m = d.map in
    let size = c.width * c.height in
    let on = drawn-layers_on MAX_GROUPS c layer_tier 0 m.layers in
    let ds = all_drawn m.layers in
    let same = λ (number : ℕ) (l : ℕ × Layer). object_ids-contents (cells_on c number) (objects_on c) (object_ids-moved c.right c.down) l.1.body in
    let cells : Each (AreCells size) (flat_map lists_of (drawn_on c 0 ds)) = rw (← on, tile_layers-on c m fits.count) fits.cells in
    record {
      map = record {
        size = fits.size;
        tile_size = h.map.tile_size;
        layers = rw on (record {
          few = rw (length-drawn_on c 0 ds) h.map.layers.few;
          each = layers-on c 0 (m.width * m.height) size ds h.map.layers.each fits.objects cells;
          layer_ids = rw (flat-on c ids_of (λ number l. refl) 0 ds) h.map.layers.layer_ids;
          object_ids = rw (flat-on c object_ids_of same 0 ds) h.map.layers.object_ids;
        });
        tilesets = h.map.tilesets;
        properties = h.map.properties;
        kept = h.map.kept;
      };
      selection = fits.selection;
    }

-- ---- the canvas that turns it back fits
IsShift-neg : (z : ℤ) → IsShift z → IsShift (neg_ℤ z)
IsShift-neg z h = record { low = omega (arith, ints, h.low, h.high); high = omega (arith, ints, h.low, h.high) }

objects-may : (right down : ℤ) (tier : ℕ) (os : List Object) → Each (IsObject tier) os
    → Each (MayBeMoved (neg_ℤ right) (neg_ℤ down)) (map (object_moved right down) os)
objects-may right down tier [] h = tt
objects-may right down tier (o ∷ os) h = (rw (number-back o.placing.x right, number-back o.placing.y down) h.0.placing, objects-may right down tier os h.1)

body-may : (c : Canvas) (number tier size : ℕ) (b : Body) → IsBody tier size b → BodyMayBeMoved (neg_ℤ c.right) (neg_ℤ c.down) (body_on c number b)
body-may c number tier size (Objects os) h = objects-may c.right c.down (object_tier tier) os h.1
body-may c number tier size b h = tt

layers-may : (c : Canvas) (number size : ℕ) (ds : List (ℕ × Layer)) → Each (IsDrawn size) ds
    → Each (MayBeDrawn (neg_ℤ c.right) (neg_ℤ c.down)) (drawn_on c number ds)
layers-may c number size [] h = tt
layers-may c number size (d ∷ ds) h = (body-may c number d.0 size d.1.body h.0.body, layers-may c (number + length (lists_of d)) size ds h.1)

body-cells : (tier size : ℕ) (b : Body) → IsBody tier size b → Each (AreCells size) (lists_in b)
body-cells tier size (Tiles e own) h = (h, tt)
body-cells tier size b h = tt

pub layers-cells : (size : ℕ) (ds : List (ℕ × Layer)) → Each (IsDrawn size) ds → Each (AreCells size) (flat_map lists_of ds)
layers-cells size [] h = tt
layers-cells size (d ∷ ds) h =
    Each-append (AreCells size) (lists_of d) (flat_map lists_of ds) (body-cells d.0 size d.1.body h.0.body) (layers-cells size ds h.1)

pub back-IsCanvasOf : (c : Canvas) (d : DocumentParts) → IsCanvasOf d c → IsDocument d → IsCanvasOf (with_canvas c d) (canvas_back c d)
back-IsCanvasOf c d fits h =
    let size = d.map.width * d.map.height in
    record {
      size = h.map.size;
      count = sym (ap length (tile_layers-on c d.map fits.count) ∙ fits.count);
      cells = layers-cells size (all_drawn d.map.layers) h.map.layers.each;
      selection = h.selection;
      right = IsShift-neg c.right fits.right;
      down = IsShift-neg c.down fits.down;
      objects = rw (drawn-layers_on MAX_GROUPS c layer_tier 0 d.map.layers) (layers-may c 0 size (all_drawn d.map.layers) h.map.layers.each);
    }

-- ---- the document as its parts were exchanged
pub on-parts : (c back : Canvas) (d : DocumentParts) (m : MapParts) (selection : set.FinSet cell_cmp) (width height : ℕ) (lists : List (List ℕ))
    (ls : List Layer) → m ≡ d.map
    → back ≡ with_lists lists c → width ≡ back.width → height ≡ back.height → ls ≡ layers_on MAX_GROUPS c 0 m.layers → selection ≡ back.selection
    → record { map = record m { width = width; height = height; layers = ls }; selection = selection } ≡ with_canvas c d
on-parts c back d m selection width height lists ls is held wide high laid selected =
    let wide_is : width ≡ c.width = wide ∙ ap (λ b. b.width) held in
    let high_is : height ≡ c.height = high ∙ ap (λ b. b.height) held in
    let laid_is : ls ≡ layers_on MAX_GROUPS c 0 d.map.layers = laid ∙ ap (λ n. layers_on MAX_GROUPS c 0 n.layers) is in
    let selected_is : selection ≡ c.selection = selected ∙ ap (λ b. b.selection) held in
    λ i. record { map = record (is i) { width = wide_is i; height = high_is i; layers = laid_is i }; selection = selected_is i }

module _ (c back : Canvas) (d e : DocumentParts) (given : back ≡ canvas_back c d) (document : e ≡ with_canvas c d) where
  pub turned-as : with_canvas back e ≡ d
  turned-as = (λ i. with_canvas (given i) (document i)) ∙ canvas-turned c d

  pub back-as : IsCanvasOf d c → IsDocument d → IsCanvasOf e back
  back-as fits h = rw (document, given) (back-IsCanvasOf c d fits h)

pub document-as : (c : Canvas) (d e : DocumentParts) → e ≡ with_canvas c d → IsCanvasOf d c → IsDocument d → IsDocument e
document-as c d e is fits h = rw is (on-IsDocument c d fits h)
