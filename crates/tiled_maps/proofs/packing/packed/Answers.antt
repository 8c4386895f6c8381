use Rattle.std.proofs.Common.{Option, option_map, subst, inr, arith, sym}
use Rattle.serde_json.specs.View.{view}
use Rattle.serde_json.specs.declared.value.Value.{Value}
use Rattle.json_trees.specs.Names.{has_name}
use Rattle.tiled_maps.specs.Packed.{note_name}
use Rattle.tiled_maps.specs.Packing.{MapPacked, IsFound}
use Rattle.tiled_maps.proofs.PackedLaws.{found_is_kept, none_is_kept}
use Rattle.tiled_maps.proofs.PackedDepths.{map_deep}
use Rattle.tiled_maps.proofs.packing.packed.Goals as goal

pub returns-in-Some-clause-kept : goal.returns-in-Some-clause-kept
returns-in-Some-clause-kept c =
    let s = option_map (λ s. view s.now) c.args.source in
    let u = view c.args.map in
    let P : Option Value → Type 0 = λ f. IsFound s u (option_map view f) in
    found_is_kept s u (view c.in-Some.same) (subst P c.in-Some.is c.in_ok-same.ensures.kept)

pub returns-in_ok-anew-in-None-clause-packed : goal.returns-in_ok-anew-in-None-clause-packed
returns-in_ok-anew-in-None-clause-packed c = inr (rw (sym c.if-not-has_name.ensures) c.in_ok-anew-in-None.ensures)

pub returns-in_ok-anew-in-None-clause-kept : goal.returns-in_ok-anew-in-None-clause-kept
returns-in_ok-anew-in-None-clause-kept c =
    let s = option_map (λ s. view s.now) c.args.source in
    let u = view c.args.map in
    let P : Option Value → Type 0 = λ f. IsFound s u (option_map view f) in
    none_is_kept s u (view c.in_ok-anew-in-None.anew) (subst P c.in-None.is c.in_ok-same.ensures.kept)

pub returns-in_ok-anew-in-None-clause-within : goal.returns-in_ok-anew-in-None-clause-within
returns-in_ok-anew-in-None-clause-within c =
    let u = view c.args.map in
    let p = view c.in_ok-anew-in-None.anew in
    let packed : MapPacked (has_name note_name u) u p = rw (sym c.if-not-has_name.ensures) c.in_ok-anew-in-None.ensures in
    λ within. omega (arith, within, map_deep (has_name note_name u) u p packed)
