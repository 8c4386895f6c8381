use Rattle.std.proofs.Common.{◌≡◌, ◌+◌, ◌-◌, ◌≤◌, ◌++◌, ◌∷◌, [], length, None, Some, rules, arith, sym, ap, ◌∙◌, length-append}
use Rattle.std.proofs.lemmas.List.{nil_from_length}
use Rattle.std.specs.Vec.Iter.{into_iter_items}
use Rattle.serde_json.proofs.Views.{items_len-items_view}
use Rattle.serde_json.specs.Events.{items_len}
use Rattle.serde_json.specs.Find.{as_array, as_object}
use Rattle.serde_json.specs.View.{view as data_of, items_view}
use Rattle.map_model.specs.declared.limits.TheConstants.{MAX_LAYERS}
use Rattle.map_json.specs.Reading.{layer_by, layers_at}
use Rattle.map_json.specs.Elements.{each_counted}
use Rattle.map_json.proofs.Loops.{counted_prefix, counted_prefix-element, counted_prefix-all}
use Rattle.map_json.proofs.Heads.{layer_by-no_object, head_refused, body_refused, layer_read}
use Rattle.map_json.proofs.Rooms.{layers_at-no_array, layers_at-no_groups, layers_at-many, layers_at-each}
use Rattle.map_json.proofs.layer.+layers.Goals.{layers_in-then-groups-eq0-via-then-groups-eq0, layers_in-then-groups-eq0-via-else-groups-eq0+then-len-count}
use Rattle.map_json.proofs.layer.+layers.Goals as goal

pub layers_in-returns-in_err-values-clause-value :
    goal.layers_in-returns-in_err-values-clause-value
layers_in-returns-in_err-values-clause-value g t c =
    let none : as_array (data_of c.args.value) ≡ None = search rules in
    let is = layers_at-no_array c.args.no_data c.args.size.width c.args.size.height c.args.count.now (data_of c.args.value) c.args.groups none in
    search rules

pub layers_in-returns-then-groups-eq0-clause-value :
    goal.layers_in-returns-then-groups-eq0-clause-value
layers_in-returns-then-groups-eq0-clause-value g t c =
    let values = items_view c.in_ok-values.values.items in
    let found : as_array (data_of c.args.value) ≡ Some values = search rules in
    elim c.then-groups-eq0.branch [
      | layers_in-then-groups-eq0-via-then-groups-eq0 w ↦ layers_at-no_groups c.args.no_data c.args.size.width c.args.size.height c.args.count.now
          (data_of c.args.value) c.args.groups values found (omega (arith, w.if-groups-eq0))
      | layers_in-then-groups-eq0-via-else-groups-eq0+then-len-count w ↦
          layers_at-many c.args.no_data c.args.size.width c.args.size.height c.args.count.now (data_of c.args.value) c.args.groups values found
          (omega (arith, w.if-len-count, w.len.ensures, items_len-items_view c.in_ok-values.values.items, c.requires.few))
    ]

pub layers_in-returns-clause-value : goal.layers_in-returns-clause-value
layers_in-returns-clause-value g t c =
    let values = items_view c.in_ok-values.values.items in
    let found : as_array (data_of c.args.value) ≡ Some values = search rules in
    let long : items_len values ≡ c.len-2.result = omega (arith, c.len-2.ensures, items_len-items_view c.in_ok-values.values.items) in
    let fits : c.args.count.now + items_len values ≤ MAX_LAYERS =
    omega (arith, c.if-len-count.false, c.len.ensures, items_len-items_view c.in_ok-values.values.items, c.requires.few) in
    let is = layers_at-each c.args.no_data c.args.size.width c.args.size.height c.args.count.now (data_of c.args.value) c.args.groups (c.args.groups - 1) values
    (omega (arith, c.if-groups-eq0.false)) found fits in
    rw (is, long) c.each_layer.ensures.value

pub layer-returns-in_err-members-clause-value : goal.layer-returns-in_err-members-clause-value
layer-returns-in_err-members-clause-value g t c =
    let none : as_object (data_of c.args.value) ≡ None = search rules in
    let is = layer_by-no_object c.args.no_data (layers_at c.args.no_data c.args.groups c.args.size.width c.args.size.height) c.args.size.width c.args.size.height
    c.args.count.now (data_of c.args.value) none in
    search rules

pub layer-returns-in_err-head-clause-value : goal.layer-returns-in_err-head-clause-value
layer-returns-in_err-head-clause-value g t c =
    let inner = layers_at c.args.no_data c.args.groups c.args.size.width c.args.size.height in
    let members : as_object (data_of c.args.value) ≡ Some c.in_ok-members.members = search rules in
    let fails = head_refused c.args.no_data inner c.args.size.width c.args.size.height c.args.count.now (data_of c.args.value) c.in_ok-members.members members
    c.in_err-head.field-0.0 c.in_err-head.ensures.value in
    search rules

pub layer-returns-in_err-body-clause-value : goal.layer-returns-in_err-body-clause-value
layer-returns-in_err-body-clause-value g t c =
    let inner = layers_at c.args.no_data c.args.groups c.args.size.width c.args.size.height in
    let members : as_object (data_of c.args.value) ≡ Some c.in_ok-members.members = search rules in
    let fails = body_refused c.args.no_data inner c.args.size.width c.args.size.height c.args.count.now (data_of c.args.value) c.in_ok-members.members members
    c.in_ok-head.head c.in_ok-head.ensures.value c.read_head.new.members c.in_ok-head.ensures.left c.in_err-body.field-0.0 c.in_err-body.ensures.value in
    search rules

pub layer-returns-clause-value : goal.layer-returns-clause-value
layer-returns-clause-value g t c =
    let inner = layers_at c.args.no_data c.args.groups c.args.size.width c.args.size.height in
    let members : as_object (data_of c.args.value) ≡ Some c.in_ok-members.members = search rules in
    layer_read c.args.no_data inner c.args.size.width c.args.size.height c.args.count.now (data_of c.args.value) c.in_ok-members.members members
    c.in_ok-head.head c.in_ok-head.ensures.value c.read_head.new.members c.in_ok-head.ensures.left
    c.body.new.count c.in_ok-body.body _ c.in_ok-body.ensures.value (cc c.in_ok-body.ensures.kept)

pub each_layer-loop-value-preserved : goal.each_layer-loop-value-preserved
each_layer-loop-value-preserved g t c =
    let read = layer_by c.args.no_data (layers_at c.args.no_data c.args.groups c.args.size.width c.args.size.height) c.args.size.width c.args.size.height in
    let l = c.loop-value in
    let later = c.next.new.self in
    let steps : into_iter_items l.value-iterator ≡ c.in-Some.value ∷ into_iter_items later = search rules in
    let put : c.add.new.self ≡ l.found ++ c.in_ok-layer.layer ∷ [] = search rules in
    let more = counted_prefix-element read l.found l.count c.layer.new.count (data_of c.in-Some.value) (items_view (into_iter_items later))
    c.in_ok-layer.layer c.in_ok-layer.ensures.value in (
      tt,
      tt,
      omega (arith, simp length-append at (ap length put), ap length steps, l.invariant.2),
      rw put (sym more ∙ (ap (λ vs. counted_prefix l.found (each_counted read l.count (items_view vs))) (sym steps) ∙ l.invariant.3)),
      c.in_ok-layer.ensures.few,
    )

pub each_layer-returns-clause-value : goal.each_layer-returns-clause-value
each_layer-returns-clause-value g t c =
    let l = c.loop-value in
    let none = nil_from_length (into_iter_items l.value-iterator) (search (rules, c.in-None.ensures.steps.0)) in
    let read = layer_by c.args.no_data (layers_at c.args.no_data c.args.groups c.args.size.width c.args.size.height) c.args.size.width c.args.size.height in
    counted_prefix-all read l.found l.count _ (rw none at l.invariant.3)
