use Rattle.std.proofs.Common.{◌≡◌, true}
use Rattle.serde_json.specs.Data.{object}
use Rattle.serde_json.specs.View.{view, members_view}
use Rattle.infinite_maps.specs.declared.part.Part.TheVariants.{Layers}
use Rattle.infinite_maps.specs.Finite.{is_blamed, IsNotMade}
use Rattle.infinite_maps.proofs.FiniteWalk.{blamed_object, on_fault}
use Rattle.infinite_maps.proofs.finite.finite_map.Goals as goal

pub returns-else-saturating_mul-gt-MAX_LAYER_CELLS-clause-faults : goal.returns-else-saturating_mul-gt-MAX_LAYER_CELLS-clause-faults
returns-else-saturating_mul-gt-MAX_LAYER_CELLS-clause-faults c =
    let ms = members_view c.args.members.now.entries in
    let d = view c.args.value.now in
    on_fault c.finite_on.result (λ f. is_blamed f Layers (object ms) ≡ true) (λ f. IsNotMade f d)
    (λ f e. blamed_object f d ms c.requires e) c.finite_on.ensures.faults
