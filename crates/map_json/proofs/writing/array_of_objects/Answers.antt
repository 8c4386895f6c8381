use Rattle.std.proofs.Common.{sym, ap, ◌∙◌}
use Rattle.serde_json.specs.Data.{item, array}
use Rattle.serde_json.specs.View.{items_view}
use Rattle.map_values.specs.Arrays.{items_by}
use Rattle.map_json.specs.Trees.{object_tree}
use Rattle.map_json.proofs.Pushes.{joined, joined-none, joined-push}
use Rattle.map_json.proofs.writing.array_of_objects.Goals as goal

pub loop-object-preserved : goal.loop-object-preserved
loop-object-preserved c =
    let so_far = c.loop-object.values.items in
    let rest = items_by object_tree c.next.new.self in
    ap (λ vs. joined (items_view vs) rest) c.in_ok-push.ensures.items
    ∙ (joined-push so_far c.in_ok-tree.field-0 rest
    ∙ (ap (λ d. joined (items_view so_far) (item d rest)) c.in_ok-tree.ensures
    ∙ (sym (ap (λ es. joined (items_view so_far) (items_by object_tree es)) c.in-Some.ensures.steps) ∙ c.loop-object.invariant)))

pub returns : goal.returns
returns c =
    let so_far = c.loop-object.values.items in
    c.from.ensures
    ∙ ap array (sym (joined-none (items_view so_far)) ∙ (sym (ap (λ es. joined (items_view so_far) (items_by object_tree es)) c.in-None.ensures.steps.0)
    ∙ c.loop-object.invariant))
