-- Layers that are packed again. Where a source unpacks to the map, the text is the source.
use Rattle.std.proofs.Common.{◌≡◌, ◌≤◌, true, ℕ, List, Option, Some, None, option_map, refl, sym, ap, ◌∙◌, subst}
use Rattle.std.specs.Option.{option_copied}
use Rattle.std.proofs.Common.{Bor}
use Rattle.serde_json.specs.Data.{Data, Members, depth}
use Rattle.serde_json.specs.Read.{max_depth}
use Rattle.serde_json.specs.View.{view}
use Rattle.serde_json.specs.declared.value.Value.{Value}
use Rattle.serde_json.proofs.Nesting.{depth-read}
use Rattle.json_trees.specs.Names.{has_name}
use Rattle.deflate.specs.declared.frame.Frame.{Frame}
use Rattle.tiled_maps.specs.Packed.{compression, note_name, renamed, unpacked_layers, packed_cells, most_packed}
use Rattle.tiled_maps.specs.Packing.{OwnPacked, ChunksPacked, LayerPacked, IsFound, IsKept}
use Rattle.tiled_maps.specs.Likeness.{IsSource}

pub found_is_kept : (s : Option Data) (u p : Data) → IsFound s u (Some p) → IsKept s u p
found_is_kept None u p h = tt
found_is_kept (Some s) u p h = λ note within few e. let same : Some p ≡ Some s = h within few e in cc

-- no such source was found
pub none_is_kept : (s : Option Data) (u p : Data) → IsFound s u None → IsKept s u p
none_is_kept None u p h = tt
none_is_kept (Some s) u p h = λ note within few e. let none : None ≡ Some s = h within few e in absurd cc

pub LayerPacked-some : (o : Option Frame) (frame : Frame) (ms own all ns : Members) → Some frame ≡ o → OwnPacked frame ms own
    → ChunksPacked frame own all → ns ≡ renamed note_name compression all → LayerPacked o ms ns
LayerPacked-some o frame ms own all ns is h k e = subst (λ f. LayerPacked f ms ns) is (own, all, h, k, e)

pub source_within : (source : List ℕ) (s : Option Data) → IsSource source s → (o : Data) → s ≡ Some o → depth o ≤ max_depth
source_within source None is o e = absurd cc
source_within source (Some s) is o e = let same : s ≡ o = cc in subst (λ d. depth d ≤ max_depth) same (depth-read source s is.0.1)

pub unpacks_to_source : (s : Option Data) (u p : Data) (text source : List ℕ) → IsKept s u p → ((o : Data) → s ≡ Some o → depth o ≤ max_depth)
    → (s ≡ Some p → text ≡ source) → (o : Data) → s ≡ Some o → packed_cells o ≤ most_packed → has_name note_name u ≡ true → unpacked_layers o ≡ u
    → text ≡ source
unpacks_to_source None u p text source kept within h o e few note is = absurd cc
unpacks_to_source (Some s) u p text source kept within h o e few note is =
    let same : s ≡ o = cc in
    let small : packed_cells s ≤ most_packed = subst (λ d. packed_cells d ≤ most_packed) (sym same) few in
    h (ap (λ d. Some d) (sym (kept note (within s refl) small (ap unpacked_layers same ∙ is))))

pub seen_by : (r : Option (Bor Value)) (t : Option Value) → option_copied r ≡ t → option_map (λ s. view s.now) r ≡ option_map view t
seen_by None t e = ap (option_map view) e
seen_by (Some v) t e = ap (option_map view) e
