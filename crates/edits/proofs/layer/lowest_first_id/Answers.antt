use Rattle.std.proofs.Common.{◌≡◌, ◌-◌, ◌^◌, ap, subst, sym, ◌∙◌, rules}
use Rattle.map_model.specs.declared.parts.MapParts.{MapParts}
use Rattle.map_model.specs.WellFormed.{IsWellFormed}
use Rattle.edits.specs.Refusals.{is_known}
use Rattle.edits.proofs.KnownValues.{known-from_lowest, lowest_of}
use Rattle.edits.proofs.layer.lowest_first_id.Goals as goal

pub returns : goal.returns
returns c value =
    let m = c.parts.result.now in
    let lowest : c.loop-tileset.lowest ≡ lowest_of (2 ^ 32 - 1) m.tilesets = search rules in
    known-from_lowest m c.loop-tileset.lowest value (subst IsWellFormed (sym c.parts.ensures.value) c.parts.ensures.well_formed) lowest
    ∙ ap (λ (m : MapParts). is_known m value) c.parts.ensures.value
