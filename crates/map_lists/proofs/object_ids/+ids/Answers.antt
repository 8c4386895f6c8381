use Rattle.std.proofs.Common.{◌≡◌, ◌-◌, ℕ, List, [], ◌++◌, append_assoc, OnOk, sym, ap, ◌∙◌, subst}
use Rattle.std.specs.List.{flat_map}
use Rattle.std.specs.Option.{option_copied}
use Rattle.map_model.specs.declared.parts.Layer.{Layer}
use Rattle.map_model.specs.Groups.{bare, drawn}
use Rattle.map_model.specs.Keeping.{layer_tier}
use Rattle.map_model.specs.Lists.{or_empty}
use Rattle.map_model.specs.WellFormed.{ids_of_object, object_ids_in, object_ids_of}
use Rattle.map_model.proofs.GroupBodies.{objects_in-with}
use Rattle.map_lists.proofs.Flat.{flat-group, flat-no_group, flat-no_groups}
use Rattle.map_lists.proofs.object_ids.+ids.Goals as goal

ids-bare : (a b : ℕ) (l : Layer) → object_ids_of (a, bare l) ≡ object_ids_of (b, l)
ids-bare a b l = ap (λ o. flat_map ids_of_object (or_empty o)) (objects_in-with (λ ls. []) l.body)

pub push_ids_under-returns-then-groups-eq0 : goal.push_ids_under-returns-then-groups-eq0
push_ids_under-returns-then-groups-eq0 t c =
    let old = c.args.ids.now.items in
    c.in_ok-push_ids_of.ensures
    ∙ ap (λ (is : List ℕ). old ++ is) (flat-no_groups object_ids_of ids-bare c.args.groups layer_tier c.args.layer.now c.if-groups-eq0.true)

pub push_ids_under-returns-in-Some : goal.push_ids_under-returns-in-Some
push_ids_under-returns-in-Some t c =
    let old = c.args.ids.now.items in
    let l = c.args.layer.now in
    let rest = flat_map object_ids_of (drawn (c.args.groups - 1) layer_tier c.in-Some.inside.now) in
    let group = sym c.layers.ensures ∙ ap option_copied c.in-Some.is in
    let all = ap (λ (is : List ℕ). is ++ rest) c.in_ok-push_ids_of.ensures ∙ append_assoc old (object_ids_in l.body) rest
    ∙ ap (λ (is : List ℕ). old ++ is) (flat-group object_ids_of ids-bare c.args.groups l c.in-Some.inside.now c.if-groups-eq0.false group) in
    subst (λ (is : List ℕ). OnOk c.push_ids_in.result (c.push_ids_in.new.ids.items ≡ is)) all c.push_ids_in.ensures

pub push_ids_under-returns-in-None : goal.push_ids_under-returns-in-None
push_ids_under-returns-in-None t c =
    let old = c.args.ids.now.items in
    let group = sym c.layers.ensures ∙ ap option_copied c.in-None.is in
    c.in_ok-push_ids_of.ensures ∙ ap (λ (is : List ℕ). old ++ is) (flat-no_group object_ids_of ids-bare c.args.groups layer_tier c.args.layer.now group)
