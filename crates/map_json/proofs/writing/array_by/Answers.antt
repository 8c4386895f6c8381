use Rattle.std.proofs.Common.{sym, ap, ◌∙◌}
use Rattle.serde_json.specs.Data.{item, array}
use Rattle.serde_json.specs.View.{items_view}
use Rattle.map_values.specs.Arrays.{items_by}
use Rattle.map_json.proofs.Pushes.{joined, joined-none, joined-push}
use Rattle.map_json.proofs.writing.array_by.Goals as goal

pub loop-element-preserved : goal.loop-element-preserved
loop-element-preserved g c =
    let f = g.T.Tree.tree c.args.size in
    let so_far = c.loop-element.values.items in
    let rest = items_by f c.next.new.self in
    ap (λ vs. joined (items_view vs) rest) c.in_ok-push.ensures.items
    ∙ (joined-push so_far c.in_ok-tree.field-0 rest
    ∙ (ap (λ d. joined (items_view so_far) (item d rest)) c.in_ok-tree.ensures
    ∙ (sym (ap (λ es. joined (items_view so_far) (items_by f es)) c.in-Some.ensures.steps) ∙ c.loop-element.invariant)))

pub returns : goal.returns
returns g c =
    let f = g.T.Tree.tree c.args.size in
    let so_far = c.loop-element.values.items in
    c.from.ensures
    ∙ ap array (sym (joined-none (items_view so_far)) ∙ (sym (ap (λ es. joined (items_view so_far) (items_by f es)) c.in-None.ensures.steps.0)
    ∙ c.loop-element.invariant))
