use Rattle.std.proofs.Common.{◌≡◌, ◌∷◌, ◌++◌, ◌-◌, suc, [], List, ℕ, None, Some, rules, refl, sym, ap, ◌∙◌, arith, append_assoc}
use Rattle.std.specs.List.{flat_map}
use Rattle.map_model.specs.declared.parts.Layer.{Layer}
use Rattle.map_model.specs.Groups.{drawn, inside, group_in}
use Rattle.map_model.specs.Lists.{or_empty}
use Rattle.map_model.specs.Keeping.{layer_tier}
use Rattle.map_model.specs.WellFormed.{ids_of, object_ids_of, object_ids_in}
use Rattle.map_model.proofs.GroupBodies.{object_ids-with}
use Rattle.map_json.proofs.Gathered.{gathered-alone, gathered-inside, gathered-empty}
use Rattle.map_json.proofs.doubles.+push_layers.Goals as goal

put_twice : (prefix own more rest : List ℕ) → ((prefix ++ own) ++ more) ++ rest ≡ prefix ++ ((own ++ more) ++ rest)
put_twice prefix own more rest = simp append_assoc

-- one layer more, of ids of layers and of objects
abbrev id_list : Layer → List ℕ
id_list l = l.id ∷ []

abbrev object_list : Layer → List ℕ
object_list l = object_ids_in l.body

pub loop-layer-preserved-in-Continue-branch-2 : goal.loop-layer-preserved-in-Continue-branch-2
loop-layer-preserved-in-Continue-branch-2 t c =
    let l = c.in-Some.layer.now in
    let ks = c.in-Some-layers.inside.now in
    let rest = c.next.new.self in
    let less = c.args.groups - 1 in
    let more : c.args.groups ≡ suc less = omega (arith, c.if-groups-gt0.true) in
    let group : group_in l.body ≡ Some ks = search rules in
    let are : inside l ≡ ks = ap or_empty group in
    let ids = ap (λ ls. c.loop-layer.ids.layers.items ++ flat_map ids_of (drawn c.args.groups layer_tier ls)) (sym c.in-Some.ensures.steps) in
    let objects = ap (λ ls. c.loop-layer.ids.objects.items ++ flat_map object_ids_of (drawn c.args.groups layer_tier ls)) (sym c.in-Some.ensures.steps) in (
      ap (λ xs. xs ++ flat_map ids_of (drawn c.args.groups layer_tier rest))
          (c.in_ok-push_layers.ensures.layers ∙ ap (λ xs. xs ++ flat_map ids_of (drawn less layer_tier ks)) c.in_ok-push_layer.ensures.layers)
          ∙ put_twice c.loop-layer.ids.layers.items (id_list l) (flat_map ids_of (drawn less layer_tier ks))
          (flat_map ids_of (drawn c.args.groups layer_tier rest))
          ∙ ap (λ xs. c.loop-layer.ids.layers.items ++ xs) (sym (gathered-inside id_list (λ k. refl) c.args.groups less l rest ks more are)) ∙ ids
          ∙ c.loop-layer.invariant.0,
      ap (λ xs. xs ++ flat_map object_ids_of (drawn c.args.groups layer_tier rest))
          (c.in_ok-push_layers.ensures.objects ∙ ap (λ xs. xs ++ flat_map object_ids_of (drawn less layer_tier ks)) c.in_ok-push_layer.ensures.objects)
          ∙ put_twice c.loop-layer.ids.objects.items (object_list l) (flat_map object_ids_of (drawn less layer_tier ks))
          (flat_map object_ids_of (drawn c.args.groups layer_tier rest))
          ∙ ap (λ xs. c.loop-layer.ids.objects.items ++ xs) (sym
          (gathered-inside object_list (λ k. object_ids-with (λ ls. []) k.body) c.args.groups less l rest ks more are)) ∙ objects ∙ c.loop-layer.invariant.1,
    )

pub loop-layer-preserved-in_default : goal.loop-layer-preserved-in_default
loop-layer-preserved-in_default t c =
    let l = c.in-Some.layer.now in
    let rest = c.next.new.self in
    let less = c.args.groups - 1 in
    let more : c.args.groups ≡ suc less = omega (arith, c.if-groups-gt0.true) in
    let group : group_in l.body ≡ None = search rules in
    let are : inside l ≡ [] = ap or_empty group in
    let ids = ap (λ ls. c.loop-layer.ids.layers.items ++ flat_map ids_of (drawn c.args.groups layer_tier ls)) (sym c.in-Some.ensures.steps) in
    let objects = ap (λ ls. c.loop-layer.ids.objects.items ++ flat_map object_ids_of (drawn c.args.groups layer_tier ls)) (sym c.in-Some.ensures.steps) in (
      ap (λ xs. xs ++ flat_map ids_of (drawn c.args.groups layer_tier rest)) c.in_ok-push_layer.ensures.layers
          ∙ append_assoc c.loop-layer.ids.layers.items (id_list l) (flat_map ids_of (drawn c.args.groups layer_tier rest))
          ∙ ap (λ xs. c.loop-layer.ids.layers.items ++ xs) (sym (gathered-empty id_list (λ k. refl) c.args.groups less l rest more are)) ∙ ids
          ∙ c.loop-layer.invariant.0,
      ap (λ xs. xs ++ flat_map object_ids_of (drawn c.args.groups layer_tier rest)) c.in_ok-push_layer.ensures.objects
          ∙ append_assoc c.loop-layer.ids.objects.items (object_list l) (flat_map object_ids_of (drawn c.args.groups layer_tier rest))
          ∙ ap (λ xs. c.loop-layer.ids.objects.items ++ xs) (sym
          (gathered-empty object_list (λ k. object_ids-with (λ ls. []) k.body) c.args.groups less l rest more are)) ∙ objects ∙ c.loop-layer.invariant.1,
    )

pub loop-layer-preserved : goal.loop-layer-preserved
loop-layer-preserved t c =
    let l = c.in-Some.layer.now in
    let rest = c.next.new.self in
    let none : c.args.groups ≡ 0 = omega (arith, c.if-groups-gt0.false) in
    let ids = ap (λ ls. c.loop-layer.ids.layers.items ++ flat_map ids_of (drawn c.args.groups layer_tier ls)) (sym c.in-Some.ensures.steps) in
    let objects = ap (λ ls. c.loop-layer.ids.objects.items ++ flat_map object_ids_of (drawn c.args.groups layer_tier ls)) (sym c.in-Some.ensures.steps) in (
      ap (λ xs. xs ++ flat_map ids_of (drawn c.args.groups layer_tier rest)) c.in_ok-push_layer.ensures.layers
          ∙ append_assoc c.loop-layer.ids.layers.items (id_list l) (flat_map ids_of (drawn c.args.groups layer_tier rest))
          ∙ ap (λ xs. c.loop-layer.ids.layers.items ++ xs) (sym (gathered-alone id_list (λ k. refl) c.args.groups l rest none)) ∙ ids
          ∙ c.loop-layer.invariant.0,
      ap (λ xs. xs ++ flat_map object_ids_of (drawn c.args.groups layer_tier rest)) c.in_ok-push_layer.ensures.objects
          ∙ append_assoc c.loop-layer.ids.objects.items (object_list l) (flat_map object_ids_of (drawn c.args.groups layer_tier rest))
          ∙ ap (λ xs. c.loop-layer.ids.objects.items ++ xs) (sym (gathered-alone object_list (λ k. object_ids-with
          (λ ls. []) k.body) c.args.groups l rest none))
          ∙ objects ∙ c.loop-layer.invariant.1,
    )
