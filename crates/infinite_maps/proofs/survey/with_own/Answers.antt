use Rattle.serde_json.specs.View.{view, items_view, members_view}
use Rattle.infinite_maps.proofs.Refusals.{bad_by_place, on_err}
use Rattle.infinite_maps.proofs.survey.with_own.Goals as goal

pub returns-in_err-with_chunks-in-Some-as_array-clause-bad : goal.returns-in_err-with_chunks-in-Some-as_array-clause-bad
returns-in_err-with_chunks-in-Some-as_array-clause-bad c =
    let bad = bad_by_place (members_view c.args.members.now.entries) (view c.in-Some.value.now) (items_view c.in-Some-as_array.chunks.now.items)
    c.in-Some.ensures c.in-Some-as_array.ensures c.in_err-with_chunks-in-Some-as_array.ensures.bad in
    on_err c.from_residual.result bad
