use Rattle.std.proofs.Common.{◌≡◌, ℕ, ◌*◌, sym, ap, ◌∙◌, subst, arith}
use Rattle.serde_json.specs.Data.{Members, object}
use Rattle.serde_json.specs.Written.{compact_text}
use Rattle.map_model.specs.declared.names.TheConstants.{LAYERS}
use Rattle.map_model.specs.declared.limits.TheConstants.{MAX_GROUPS}
use Rattle.map_model.specs.declared.parts.MapParts.{MapParts}
use Rattle.map_model.specs.WellFormed.{IsWellFormed}
use Rattle.map_json.specs.declared.detail.Detail.{Detail}
use Rattle.map_json.specs.declared.detail.Detail.TheVariants.{Whole, Outline}
use Rattle.map_values.specs.Texts.{Returns}
use Rattle.map_json.specs.Appending.{AreWritten, frame_of, replaced}
use Rattle.map_json.specs.Details.{layers_in, map_in}
use Rattle.map_json.specs.Outlines.{outline_layer, outline_of}
use Rattle.map_values.specs.Arrays.{array_by}
use Rattle.map_json.specs.Trees.{layers_tree, tree_of}
use Rattle.map_json.proofs.Frames.{replaced-frame_of}
use Rattle.map_json.proofs.Plain.{frame_plain, layers_AreWritten}
use Rattle.map_json.proofs.map_text.write_in.Goals as goal

-- what is put out is the tree of the map, or that of its outline
whole_out : (width height : ℕ) (parts m : MapParts) (frame : Members) → width ≡ parts.width → height ≡ parts.height → parts ≡ m → frame ≡ frame_of parts
    → IsWellFormed m
    → object (replaced LAYERS.now (layers_tree MAX_GROUPS width height parts.layers) frame) ≡ tree_of m
unfolding tree_of
whole_out width height parts m frame wide high same is h =
    rw (wide, high, is, same) (ap object (replaced-frame_of (layers_tree MAX_GROUPS m.width m.height m.layers) m h.kept.unread.1.1.1.1.1.1.1.0))

outline_out : (width height : ℕ) (parts m : MapParts) (frame : Members) → width ≡ parts.width → height ≡ parts.height → parts ≡ m → frame ≡ frame_of parts
    → IsWellFormed m
    → object (replaced LAYERS.now (array_by (outline_layer MAX_GROUPS width height) parts.layers) frame) ≡ outline_of m
unfolding outline_of
outline_out width height parts m frame wide high same is h =
    rw (wide, high, is, same) (ap object (replaced-frame_of (array_by (outline_layer MAX_GROUPS m.width m.height) m.layers) m h.kept.unread.1.1.1.1.1.1.1.0))

put_out : (detail : Detail) (width height : ℕ) (parts m : MapParts) (frame : Members) → width ≡ parts.width → height ≡ parts.height → parts ≡ m
    → frame ≡ frame_of parts → IsWellFormed m
    → object (replaced LAYERS.now (layers_in detail MAX_GROUPS width height parts.layers) frame) ≡ map_in detail m
put_out Whole width height parts m frame wide high same is h = whole_out width height parts m frame wide high same is h
put_out Outline width height parts m frame wide high same is h = outline_out width height parts m frame wide high same is h

pub push_framed-requires-clause-layers : goal.push_framed-requires-clause-layers
push_framed-requires-clause-layers c =
    let P : MapParts → Type 0 = λ m. AreWritten MAX_GROUPS (m.width * m.height) m.layers in
    rw (c.of_map-size.ensures.width, c.of_map-size.ensures.height)
    (subst P (sym c.parts-parts.ensures.value) (layers_AreWritten c.args.map.now c.parts-parts.ensures.well_formed))

pub push_framed-requires-clause-whole : goal.push_framed-requires-clause-whole
push_framed-requires-clause-whole c =
    let plain = frame_plain c.args.map.now c.parts-parts.ensures.well_formed in
    rw (c.in_ok-frame.ensures, c.parts-parts.ensures.value) plain.0

pub push_framed-requires-clause-shallow : goal.push_framed-requires-clause-shallow
push_framed-requires-clause-shallow c =
    let plain = frame_plain c.args.map.now c.parts-parts.ensures.well_formed in
    let deep = plain.1 in
    rw (c.in_ok-frame.ensures, c.parts-parts.ensures.value) (omega arith)

pub returns-clause-text : goal.returns-clause-text
returns-clause-text c =
    let out = put_out c.args.detail c.of_map-size.result.width c.of_map-size.result.height c.parts-parts.result.now c.args.map.now c.in_ok-frame.frame
    c.of_map-size.ensures.width c.of_map-size.ensures.height c.parts-parts.ensures.value c.in_ok-frame.ensures c.parts-parts.ensures.well_formed in
    (c.in_ok-push_framed.ensures.0 ∙ (rw c.in_ok-text.ensures.items (ap compact_text out)), subst Returns out c.in_ok-push_framed.ensures.1)
