-- A map that gets columns and rows at its left and top, and whose notes are moved by heads that owners get one after another.
use Rattle.std.proofs.Common.{◌≡◌, ◌≢◌, ℕ, ◌+◌, List, [], ◌∷◌, ◌++◌, length, nat_eq, Bool, true, false, cond, find, Option, Some, None, option_map, Result}
use Rattle.std.proofs.Common.{Ok, refl, sym, ap, ◌∙◌, subst, arith}
use Rattle.std.specs.FinSet as set
use Rattle.std.specs.List.{flat_map}
use Rattle.std.specs.Option.{option_map_or}
use Rattle.std.proofs.lemmas.Bool.Decides.{nat_tests}
use Rattle.infinite_maps.specs.declared.margin.Margin.{Margin}
use Rattle.infinite_maps.specs.Margins.{has_note, map_with}
use Rattle.map_model.specs.declared.canvas.Canvas.{Canvas}
use Rattle.map_model.specs.declared.heads.LayerHead.{LayerHead}
use Rattle.map_model.specs.declared.limits.TheConstants.{MAX_GROUPS}
use Rattle.map_model.specs.declared.parts.Body.{Body}
use Rattle.map_model.specs.declared.parts.Body.TheVariants.{Tiles}
use Rattle.map_model.specs.declared.parts.Layer.{Layer}
use Rattle.map_model.specs.declared.parts.MapParts.{MapParts}
use Rattle.map_model.specs.Bodies.{tiles_or_none}
use Rattle.map_model.specs.Canvas.{body_on, lists_of, with_canvas, IsCanvasOf}
use Rattle.map_model.specs.Document.{DocumentParts, document_of, with_map}
use Rattle.map_model.specs.Groups.{all_drawn, bare, has_id, inside}
use Rattle.map_model.specs.Heads.{layer_head, map_head}
use Rattle.map_model.specs.Keeping.{layer_tier, map_tier}
use Rattle.map_model.specs.Lists.{Distinct, Each, first_some, or_else}
use Rattle.map_model.specs.Lookups.{layer_of, with_layer}
use Rattle.map_model.specs.Properties.{is_drawn_with}
use Rattle.map_model.specs.WellFormed.{IsWellFormed, ids_of}
use Rattle.map_model.proofs.CanvasLaws.{on-IsDocument}
use Rattle.map_model.proofs.CanvasTrees.{drawn-layers_on, drawn_on}
use Rattle.map_model.proofs.HeadLaws.{layer_head-laws}
use Rattle.map_model.proofs.Keeps.{KeepsLayers, layer-Stands, with_layer-keeps}
use Rattle.map_model.proofs.LensLaws.{mapped, update-put}
use Rattle.map_model.proofs.Lookups.{first_some-with_layer}
use Rattle.map_model.proofs.Selections.{empty-LiesIn}
use Rattle.map_model.proofs.TilesetLemmas.{nat_eq-true}
use Rattle.map_model.proofs.TreeChanges.{change_among-along}
use Rattle.map_model.proofs.Trees.{none_among}
use Rattle.refusals.specs.declared.edit_fault.EditFault.{EditFault}
use Rattle.layer_commands.specs.declared.notes.Note.{Note}
use Rattle.layer_commands.specs.declared.notes.Note.TheVariants as notes
use Rattle.layer_commands.specs.Extending.{layer_moved, layer_notes, layers_moved, moved_head, moved_map_head, notes_moved, notes_of, tile_ids, with_margin}
use Rattle.layer_commands.specs.Notes.{FitNotes, FitsNote, with_note, with_notes}
use Rattle.layer_commands.proofs.MovedNotes.{layer_with-AreKept, map_with-AreKept}

-- ---- the head of a layer by its id
abbrev head_by : ℕ → ℕ × Layer → Option LayerHead
head_by id d = cond (has_id id d.1) (Some (layer_head d.1)) None

found-head : (id : ℕ) (ds : List (ℕ × Layer)) → first_some (head_by id) ds ≡ option_map (λ d. layer_head d.1) (find (is_drawn_with id) ds)
found-head id [] = refl
found-head id (d ∷ ds) =
    elim (has_id id d.1) as (λ b. or_else (cond b (Some (layer_head d.1)) None) (first_some (head_by id) ds)
    ≡ option_map (λ x. layer_head x.1) (cond b (Some d) (find (is_drawn_with id) ds)))
    [ true ↦ refl | false ↦ found-head id ds ]

-- the layer with the id has this head
abbrev HasHead : MapParts → ℕ → LayerHead → Type 0
HasHead m id h = option_map layer_head (layer_of m id) ≡ Some h

heads-drawn : (m : MapParts) (id : ℕ) → option_map layer_head (layer_of m id) ≡ first_some (head_by id) (all_drawn m.layers)
heads-drawn m id = by_layer (layer_of m id) refl ∙ sym (found-head id (all_drawn m.layers))
  where
    by_layer : (o : Option Layer) → layer_of m id ≡ o → option_map layer_head o ≡ option_map (λ d. layer_head d.1) (find (is_drawn_with id) (all_drawn m.layers))
    by_layer None e = rw (none_among id MAX_GROUPS layer_tier m.layers e) refl
    by_layer (Some l) e = rw ((layer-Stands m id l e).first) refl

nat_eq-same : (n : ℕ) → nat_eq n n ≡ true
nat_eq-same n = grind (arith, nat_tests)

nat_eq-other : (a b : ℕ) → a ≢ b → nat_eq a b ≡ false
nat_eq-other a b ne = grind (arith, nat_tests, ne)

-- of layers with distinct ids each has its own head
module _ (x : ℕ × Layer) (xs : List (ℕ × Layer)) where
  more-heads : (ys : List (ℕ × Layer)) → Each (λ n. x.1.id ≢ n) (flat_map ids_of ys)
      → Each (λ d. first_some (head_by d.1.id) xs ≡ Some (layer_head d.1)) ys
      → Each (λ d. first_some (head_by d.1.id) (x ∷ xs) ≡ Some (layer_head d.1)) ys
  more-heads [] apart h = tt
  more-heads (y ∷ ys) apart h = (rw (nat_eq-other x.1.id y.1.id apart.0) h.0, more-heads ys apart.1 h.1)

each-head : (ds : List (ℕ × Layer)) → Distinct (flat_map ids_of ds) → Each (λ d. first_some (head_by d.1.id) ds ≡ Some (layer_head d.1)) ds
each-head [] h = tt
each-head (x ∷ xs) h = (rw (nat_eq-same x.1.id) refl, more-heads x xs xs h.0 (each-head xs h.1))

-- each of some layers has its head in a map
abbrev HaveHeads : MapParts → List (ℕ × Layer) → Type 0
HaveHeads m ds = Each (λ d. HasHead m d.1.id (layer_head d.1)) ds

own-heads : (m : MapParts) → IsWellFormed m → HaveHeads m (all_drawn m.layers)
own-heads m h = turned (all_drawn m.layers) (each-head (all_drawn m.layers) h.layers.layer_ids.distinct)
  where
    turned : (ds : List (ℕ × Layer)) → Each (λ d. first_some (head_by d.1.id) (all_drawn m.layers) ≡ Some (layer_head d.1)) ds → HaveHeads m ds
    turned [] k = tt
    turned (d ∷ ds) k = (heads-drawn m d.1.id ∙ k.0, turned ds k.1)

module _ (by : Margin) where
  -- ---- a layer with its note moved
  moved-KeepsLayers : KeepsLayers (layer_moved by)
  moved-KeepsLayers = record {
    ids = λ l. refl;
    inside = λ l. refl;
    object_ids = λ l. refl;
    layers = λ tier size l h. record { name = h.name; properties = h.properties; kept = layer_with-AreKept by tier l.body l.kept h.kept; body = h.body };
  }

  -- layers with other ids keep their heads
  module _ (a b : ℕ) (ne : a ≢ b) (m : MapParts) where
    abbrev guarded : Layer → Layer
    guarded l = cond (has_id a l) (layer_moved by l) l

    guarded-is : with_layer a (layer_moved by) m ≡ with_layer a guarded m
    guarded-is = ap (λ ls. record m { layers = ls }) (change_among-along a (layer_moved by) guarded MAX_GROUPS m.layers
        (λ k e. sym (rw ((layer-Stands m a k e).has) refl)))

    guarded-inside : (l : Layer) → inside (guarded l) ≡ inside l
    guarded-inside l = elim (has_id a l) as (λ t. inside (cond t (layer_moved by l) l) ≡ inside l) [ true ↦ refl | false ↦ refl ]

    guarded-head : (tier : ℕ) (l : Layer) → head_by b (tier, bare (guarded l)) ≡ head_by b (tier, bare l)
    guarded-head tier l = by_test (has_id a l) refl
      where
        by_test : (t : Bool) → has_id a l ≡ t → head_by b (tier, bare (cond t (layer_moved by l) l)) ≡ head_by b (tier, bare l)
        by_test false e = refl
        by_test true e =
            let other : nat_eq l.id b ≡ false = nat_eq-other l.id b (λ q. ne (sym (nat_eq-true l.id a e) ∙ q)) in
            rw other refl

    other-head : option_map layer_head (layer_of (with_layer a (layer_moved by) m) b) ≡ option_map layer_head (layer_of m b)
    other-head =
        heads-drawn (with_layer a (layer_moved by) m) b ∙ ap (λ n. first_some (head_by b) (all_drawn n.layers)) guarded-is
        ∙ first_some-with_layer a guarded (head_by b) guarded-inside guarded-head m ∙ sym (heads-drawn m b)

  heads-kept : (a : ℕ) (m : MapParts) (ds : List (ℕ × Layer)) → Each (λ n. a ≢ n) (flat_map ids_of ds) → HaveHeads m ds
      → HaveHeads (with_layer a (layer_moved by) m) ds
  heads-kept a m [] apart h = tt
  heads-kept a m (d ∷ ds) apart h = (other-head a d.1.id apart.0 m ∙ h.0, heads-kept a m ds apart.1 h.1)

  -- ---- one layer
  moved-keeps : (id : ℕ) (d : DocumentParts) → IsWellFormed d.map → IsWellFormed (with_layer id (layer_moved by) d.map)
  moved-keeps id d h = with_layer-keeps id (layer_moved by) d.map (with_layer id (layer_moved by) d.map).layers refl moved-KeepsLayers h

  module _ (id : ℕ) (h : LayerHead) (d : DocumentParts) (well : IsWellFormed d.map) (has : HasHead d.map id h) where
    one-is : with_note (Some (notes.Layer id (moved_head by h))) d ≡ with_map (with_layer id (layer_moved by)) d
    one-is = sym (update-put (layer_head-laws id) (moved_head by) h d (mapped layer_head (layer_of d.map id) h has))

    one-fits : FitsNote (Some (notes.Layer id (moved_head by h))) d
    one-fits = record {
      well_formed = well;
      there = rw (mapped layer_head (layer_of d.map id) h has) refl;
      back = subst (λ (e : DocumentParts). IsWellFormed e.map) (sym one-is) (moved-keeps id d well);
    }

  -- ---- all layers
  -- the notes fit the document, and lead to the other
  abbrev Lead : List (Option Note) → DocumentParts → DocumentParts → Type 0
  Lead ns d e = FitNotes ns d × (with_notes ns d ≡ e)

  layers-lead : (ds : List (ℕ × Layer)) (d : DocumentParts) → IsWellFormed d.map → Distinct (flat_map ids_of ds) → HaveHeads d.map ds
      → Lead (flat_map (layer_notes by) ds) d (with_map (layers_moved by (flat_map tile_ids ds)) d)
  layers-lead [] d well apart heads = (tt, refl)
  layers-lead (x ∷ xs) d well apart heads =
      by_tiles (tiles_or_none x.1.body) (layers-lead xs d well apart.1 heads.1)
      (layers-lead xs (with_map (with_layer x.1.id (layer_moved by)) d) (moved-keeps x.1.id d well) apart.1
      (heads-kept x.1.id d.map xs apart.0 heads.1))
    where
      by_tiles : (o : Option (List ℕ)) → Lead (flat_map (layer_notes by) xs) d (with_map (layers_moved by (flat_map tile_ids xs)) d)
          → Lead (flat_map (layer_notes by) xs) (with_map (with_layer x.1.id (layer_moved by)) d)
          (with_map (layers_moved by (flat_map tile_ids xs)) (with_map (with_layer x.1.id (layer_moved by)) d))
          → Lead (option_map_or (λ cells. Some (notes.Layer x.1.id (moved_head by (layer_head x.1))) ∷ []) o [] ++ flat_map (layer_notes by) xs) d
          (with_map (layers_moved by (option_map_or (λ cells. x.1.id ∷ []) o [] ++ flat_map tile_ids xs)) d)
      by_tiles None none some = none
      by_tiles (Some cells) none some =
          let is = one-is x.1.id (layer_head x.1) d well heads.0 in (
            (
              one-fits x.1.id (layer_head x.1) d well heads.0,
              subst (FitNotes (flat_map (layer_notes by) xs)) (sym is) some.0,
            ),
            ap (with_notes (flat_map (layer_notes by) xs)) is ∙ some.1,
          )

  -- ---- the map
  abbrev map-moved : MapParts → MapParts
  map-moved m = record m { kept = map_with by m.kept }

  map-keeps : (m : MapParts) → IsWellFormed m → IsWellFormed (map-moved m)
  map-keeps m h = record {
    size = h.size;
    tile_size = h.tile_size;
    layers = h.layers;
    tilesets = h.tilesets;
    properties = h.properties;
    kept = map_with-AreKept by map_tier m.kept h.kept;
  }

  map-lead : (d : DocumentParts) → IsWellFormed d.map → Lead (notes_of by d.map) d (with_map (notes_moved by) d)
  map-lead d h = by_note (has_note d.map.kept)
    where
      by_note : (b : Bool) → Lead (cond b (Some (notes.Map (moved_map_head by (map_head d.map))) ∷ flat_map (layer_notes by) (all_drawn d.map.layers)) []) d
          (record d { map = cond b (layers_moved by (flat_map tile_ids (all_drawn d.map.layers)) (map-moved d.map)) d.map })
      by_note false = (tt, refl)
      by_note true =
          let rest = layers-lead (all_drawn d.map.layers) (with_map map-moved d) (map-keeps d.map h) h.layers.layer_ids.distinct (own-heads d.map h) in
          ((record { well_formed = h; there = refl; back = map-keeps d.map h }, rest.0), rest.1)

  -- ---- a document that gets another canvas has the same notes
  notes-on : (c : Canvas) (number : ℕ) (ds : List (ℕ × Layer)) → flat_map (layer_notes by) (drawn_on c number ds) ≡ flat_map (layer_notes by) ds
  notes-on c number [] = refl
  notes-on c number (d ∷ ds) = λ i. by_body d.1.body i ++ notes-on c (number + length (lists_of d)) ds i
    where
      by_body : (b : Body) → option_map_or (λ cells. Some (notes.Layer d.1.id (moved_head by (layer_head d.1))) ∷ []) (tiles_or_none (body_on c number b)) []
          ≡ option_map_or (λ cells. Some (notes.Layer d.1.id (moved_head by (layer_head d.1))) ∷ []) (tiles_or_none b) []
      by_body (Tiles e cells) = refl
      by_body b = refl

  notes-canvas : (c : Canvas) (d : DocumentParts) → notes_of by (with_canvas c d).map ≡ notes_of by d.map
  notes-canvas c d = ap
      (λ ns. cond (has_note d.map.kept) (Some (notes.Map (moved_map_head by (map_head d.map))) ∷ ns) [])
      (ap (flat_map (layer_notes by)) (drawn-layers_on MAX_GROUPS c layer_tier 0 d.map.layers) ∙ notes-on c 0 (all_drawn d.map.layers))

  -- the map is well formed on the canvas
  canvas-keeps : (c : Canvas) (d : DocumentParts) → IsCanvasOf d c → IsWellFormed d.map → IsWellFormed (with_canvas c d).map
  canvas-keeps c d fits h =
      let there : IsCanvasOf (document_of d.map) c = record {
        size = fits.size;
        count = fits.count;
        cells = fits.cells;
        selection = fits.selection;
        right = fits.right;
        down = fits.down;
        objects = fits.objects;
      } in
      (on-IsDocument c (document_of d.map) there (record { map = h; selection = empty-LiesIn d.map.width d.map.height set.empty refl })).map

  pub extended-lead : (c : Canvas) (d : DocumentParts) → IsCanvasOf d c → IsWellFormed d.map
      → Lead (notes_of by d.map) (with_canvas c d) (with_map (notes_moved by) (with_canvas c d))
  extended-lead c d fits h = subst (λ (ns : List (Option Note)). Lead ns (with_canvas c d) (with_map (notes_moved by) (with_canvas c d)))
      (notes-canvas c d) (map-lead (with_canvas c d) (canvas-keeps c d fits h))

-- ---- the edit
pub with_margin-Ok : (by : Margin) (after : Result DocumentParts EditFault) (d : DocumentParts) → after ≡ Ok d
    → with_margin by after ≡ Ok (with_map (notes_moved by) d)
with_margin-Ok by after d is = ap (with_margin by) is
