use Rattle.std.proofs.Common.{true≢false, sym, ◌∙◌}
use Rattle.serde_json.specs.View.{view}
use Rattle.infinite_maps.proofs.FiniteWalk.{unlike_by}
use Rattle.infinite_maps.proofs.finite.made_finite.Goals as goal

pub returns-else-branch-clause-unlike : goal.returns-else-branch-clause-unlike
returns-else-branch-clause-unlike c =
    λ _. unlike_by (view c.in_ok-finite.finite) (view c.args.value.now) c.in_ok-finite.ensures.tree
    (λ leads. true≢false (sym (c.in_ok-comes_back.ensures.back.1 leads) ∙ c.if-branch.false))
