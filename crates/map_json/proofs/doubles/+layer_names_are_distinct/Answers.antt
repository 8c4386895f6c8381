use Rattle.std.proofs.Common.{◌≡◌, ◌-◌, suc, None, Some, true, false, rules, sym, ap, ◌∙◌, arith}
use Rattle.std.specs.List.{list_all, flat_map}
use Rattle.map_model.specs.Groups.{drawn, group_in}
use Rattle.map_model.specs.Keeping.{layer_tier}
use Rattle.map_model.specs.Lists.{or_empty}
use Rattle.map_json.specs.Distinctness.{are_named_apart, lists_of_drawn, lists_of_layer}
use Rattle.map_json.proofs.Gathered.{failed-own, failed-inside, passed-inside, passed-empty, passed-alone}
use Rattle.map_json.proofs.Named.{lists_of_bare}
use Rattle.map_json.proofs.doubles.+layer_names_are_distinct.Goals.{then-groups-gt0+in-Some-layers+in_ok-layer_names_are_distinct+else-not-branch-2}
use Rattle.map_json.proofs.doubles.+layer_names_are_distinct.Goals.{then-groups-gt0+in_default, else-groups-gt0}
use Rattle.map_json.proofs.doubles.+layer_names_are_distinct.Goals as goal

pub returns-then-not-branch : goal.returns-then-not-branch
returns-then-not-branch g t c =
    let l = c.in-Some.layer.now in
    let here = ap (λ ls. list_all are_named_apart (flat_map lists_of_drawn (drawn c.args.groups layer_tier ls))) c.in-Some.ensures.steps in
    let failed : list_all are_named_apart (lists_of_layer l) ≡ false = search rules in
    sym (sym c.loop-at.invariant.same ∙ (here ∙ failed-own lists_of_layer lists_of_bare are_named_apart c.args.groups l c.next.new.self failed))

pub returns-then-not-branch-2 : goal.returns-then-not-branch-2
returns-then-not-branch-2 g t c =
    let l = c.in-Some.layer.now in
    let here = ap (λ ls. list_all are_named_apart (flat_map lists_of_drawn (drawn c.args.groups layer_tier ls))) c.in-Some.ensures.steps in
    let ks = c.in-Some-layers.inside.now in
    let less = c.args.groups - 1 in
    let more : c.args.groups ≡ suc less = omega (arith, c.if-groups-gt0.true) in
    let group : group_in l.body ≡ Some ks = search rules in
    let passed : list_all are_named_apart (lists_of_layer l) ≡ true = search rules in
    let failed : list_all are_named_apart (flat_map lists_of_drawn (drawn less layer_tier ks)) ≡ false = search rules in
    sym (sym c.loop-at.invariant.same ∙ (here ∙ failed-inside lists_of_layer lists_of_bare are_named_apart c.args.groups less l c.next.new.self ks more
    (ap or_empty group) passed failed))

pub loop-at-preserved : goal.loop-at-preserved
loop-at-preserved g t c =
    let l = c.in-Some.layer.now in
    let here = ap (λ ls. list_all are_named_apart (flat_map lists_of_drawn (drawn c.args.groups layer_tier ls))) c.in-Some.ensures.steps in
    let less = c.args.groups - 1 in
    let passed : list_all are_named_apart (lists_of_layer l) ≡ true = search rules in
    let fits = rw c.in-Some.ensures.steps at c.loop-at.invariant.fits in
    record {
      next = tt;
      finite = tt;
      fits = omega (arith, fits);
      same =
          elim c.if-groups-gt0.branch [
            | then-groups-gt0+in-Some-layers+in_ok-layer_names_are_distinct+else-not-branch-2 w ↦
                let ks = w.in-Some-layers.inside.now in
                let more : c.args.groups ≡ suc less = omega (arith, w.if-groups-gt0) in
                let group : group_in l.body ≡ Some ks = search rules in
                let within : list_all are_named_apart (flat_map lists_of_drawn (drawn less layer_tier ks)) ≡ true = search rules in
                sym (passed-inside lists_of_layer lists_of_bare are_named_apart c.args.groups less l c.next.new.self ks more (ap or_empty group) passed within)
                ∙ (sym here ∙ c.loop-at.invariant.same)
            | then-groups-gt0+in_default w ↦
                let more : c.args.groups ≡ suc less = omega (arith, w.if-groups-gt0) in
                let group : group_in l.body ≡ None = search rules in
                sym (passed-empty lists_of_layer lists_of_bare are_named_apart c.args.groups less l c.next.new.self more (ap or_empty group) passed)
                ∙ (sym here ∙ c.loop-at.invariant.same)
            | else-groups-gt0 w ↦
                let none : c.args.groups ≡ 0 = omega (arith, w.if-groups-gt0) in
                sym (passed-alone lists_of_layer lists_of_bare are_named_apart c.args.groups l c.next.new.self none passed)
                ∙ (sym here ∙ c.loop-at.invariant.same)
          ];
    }
