use Rattle.std.proofs.Common.{◌≡◌, Some, refl, ap, ◌∙◌}
use Rattle.map_model.specs.Heads.{with_member}
use Rattle.map_model.proofs.ValueLaws.{value_named-laws}
use Rattle.member_commands.proofs.narrowing.value_apart.Goals as goal

pub replace_value-requires : goal.replace_value-requires
replace_value-requires c =
    let put = c.replace_value-value in
    let own = (value_named-laws c.args.name.now).get-update (λ x. c.args.own) put.result c.args.head.now.kept put.ensures.given in
    rw (put.ensures.kept, own) refl

pub returns-clause-kept : goal.returns-clause-kept
returns-clause-kept c = λ none.
    let laws = value_named-laws c.args.name.now in
    let put = c.replace_value-value in
    let back = c.replace_value.ensures.kept ∙ ap (with_member c.args.name.now (λ x. put.result)) put.ensures.kept
    ∙ laws.update-update (λ x. put.result) (λ x. c.args.own) c.args.head.now.kept
    ∙ laws.update-same (λ x. put.result) put.result c.args.head.now.kept put.ensures.given refl in
    ap (λ ms. record c.args.head.now { kept = ms }) back
