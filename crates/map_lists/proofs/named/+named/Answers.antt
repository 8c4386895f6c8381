use Rattle.std.proofs.Common.{◌≡◌, Some, None, sym, ap, ◌∙◌}
use Rattle.std.specs.Option.{option_copied}
use Rattle.map_model.specs.Groups.{drawn, tree}
use Rattle.map_model.specs.Keeping.{layer_tier}
use Rattle.map_model.specs.Lists.{first_some}
use Rattle.map_model.proofs.Lookups.{first_some-append}
use Rattle.map_model.proofs.TreeWalks.{first-own, first-no_groups, first-no_group, first-group}
use Rattle.map_lists.specs.Named.{id_in_layer}
use Rattle.map_lists.proofs.Subjects.{id_in_layer-bare}
use Rattle.map_lists.proofs.named.+named.Goals as goal

pub id_in_layers-returns-in-Some-id_under : goal.id_in_layers-returns-in-Some-id_under
id_in_layers-returns-in-Some-id_under t c =
    let h = id_in_layer c.args.subject c.args.name.now in
    let own : first_some h (tree c.args.groups layer_tier c.in-Some.layer.now) ≡ Some c.in-Some-id_under.found = sym c.in-Some-id_under.ensures in
    let all = rw c.in-Some.ensures.steps at c.loop-layer.invariant in
    let split = first_some-append h (tree c.args.groups layer_tier c.in-Some.layer.now) (drawn c.args.groups layer_tier c.next.new.self) in
    rw (split, own) at all

pub id_in_layers-loop-layer-preserved : goal.id_in_layers-loop-layer-preserved
id_in_layers-loop-layer-preserved t c =
    let h = id_in_layer c.args.subject c.args.name.now in
    let own : first_some h (tree c.args.groups layer_tier c.in-Some.layer.now) ≡ None = sym c.in_default.ensures in
    let all = rw c.in-Some.ensures.steps at c.loop-layer.invariant in
    let split = first_some-append h (tree c.args.groups layer_tier c.in-Some.layer.now) (drawn c.args.groups layer_tier c.next.new.self) in
    rw (split, own) at all

pub id_under-returns-in-Some : goal.id_under-returns-in-Some
id_under-returns-in-Some t c =
    let subject = c.args.subject in
    let name = c.args.name.now in
    first-own (id_in_layer subject name) (id_in_layer-bare subject name) c.args.groups layer_tier c.args.layer.now c.in-Some.found (sym c.in-Some.ensures)

pub id_under-returns-then-groups-eq0 : goal.id_under-returns-then-groups-eq0
id_under-returns-then-groups-eq0 t c =
    let subject = c.args.subject in
    let name = c.args.name.now in
    first-no_groups (id_in_layer subject name) (id_in_layer-bare subject name) c.args.groups layer_tier c.args.layer.now (sym c.in_default.ensures)
    c.if-groups-eq0.true

pub id_under-returns-in-Some-layers : goal.id_under-returns-in-Some-layers
id_under-returns-in-Some-layers t c =
    let subject = c.args.subject in
    let name = c.args.name.now in
    c.id_in_layers.ensures
    ∙ first-group (id_in_layer subject name) (id_in_layer-bare subject name) c.args.groups c.args.layer.now c.in-Some-layers.inside.now
    (sym c.in_default.ensures) c.if-groups-eq0.false (sym c.layers.ensures ∙ ap option_copied c.in-Some-layers.is)

pub id_under-returns-in-None : goal.id_under-returns-in-None
id_under-returns-in-None t c =
    let subject = c.args.subject in
    let name = c.args.name.now in
    first-no_group (id_in_layer subject name) (id_in_layer-bare subject name) c.args.groups layer_tier c.args.layer.now (sym c.in_default.ensures)
    (sym c.layers.ensures ∙ ap option_copied c.in-None.is)
