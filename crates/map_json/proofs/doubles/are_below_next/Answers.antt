use Rattle.std.proofs.Common.{◌≡◌, true, rules, ap, ◌∙◌}
use Rattle.std.specs.Prelude.{nat_lt}
use Rattle.std.specs.List.{list_all}
use Rattle.map_model.specs.WellFormed.{layer_ids, object_ids}
use Rattle.map_json.proofs.doubles.are_below_next.Goals as goal

pub returns : goal.returns
returns g c =
    let map = c.args.parts.now in
    let layers : list_all (λ id. nat_lt id map.next_layer_id) (layer_ids map.layers) ≡ true = search rules in
    let objects : c.is_none_at_fault-2.result ≡ list_all (λ id. nat_lt id map.next_object_id) (object_ids map.layers)
    = c.is_none_at_fault-2.ensures ∙ (c.late_place-object.ensures ∙ ap (list_all (λ id. nat_lt id map.next_object_id))
    (c.deref-2.ensures.value ∙ c.requires.objects)) in
    rw layers objects
