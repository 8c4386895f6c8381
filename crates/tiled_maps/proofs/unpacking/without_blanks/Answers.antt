use Rattle.std.proofs.Common.{◌∙◌, not, ap, rules}
use Rattle.std.specs.List.{filter}
use Rattle.std.proofs.lemmas.Fn.{filter_same}
use Rattle.tiled_maps.specs.Packed.{is_blank}
use Rattle.tiled_maps.proofs.unpacking.without_blanks.Goals as goal

pub returns : goal.returns
returns c =
    filter_same _ (λ b. not (is_blank b)) _ (λ x b f' k. search rules) _ _ c.retain.ensures.filtered
    ∙ ap (filter (λ b. not (is_blank b))) (c.in_ok-plain.ensures.items ∙ c.as_bytes.ensures.value)
