use Rattle.std.proofs.Common.{◌≡◌, ℕ, [], Bor, Option, Some, None, option_map, option_and_then, sym, ap, ◌∙◌}
use Rattle.std.specs.List.{position}
use Rattle.std.specs.Option.{option_copied}
use Rattle.map_model.specs.declared.parts.Layer.{Layer}
use Rattle.map_model.specs.declared.parts.Object.{Object}
use Rattle.map_model.specs.declared.place.ObjectPlace.{ObjectPlace}
use Rattle.map_model.specs.Groups.{bare, drawn, tree}
use Rattle.map_model.specs.Keeping.{layer_tier}
use Rattle.map_model.specs.Lists.{first_some}
use Rattle.map_model.specs.Objects.{found_at, found_in_layer, has_object_id}
use Rattle.map_model.proofs.GroupBodies.{objects_in-with}
use Rattle.map_model.proofs.Lookups.{first_some-append}
use Rattle.map_model.proofs.TreeWalks.{first-own, first-no_groups, first-no_group, first-group}
use Rattle.map_model.proofs.objects.+found.Goals as goal

-- what is found, seen behind its reference
abbrev shown : Option (ObjectPlace × Bor Object) → Option (ObjectPlace × Object)
shown o = option_map (λ found. (found.0, found.1.now)) o

found-bare : (id a b : ℕ) (l : Layer) → found_in_layer id (a, bare l) ≡ found_in_layer id (b, l)
found-bare id a b l = ap (option_and_then (λ os. option_and_then (found_at l os) (position (has_object_id id) os))) (objects_in-with (λ ls. []) l.body)

pub find_in_layers-returns-in-Some-find_under : goal.find_in_layers-returns-in-Some-find_under
find_in_layers-returns-in-Some-find_under t c =
    let own : first_some (found_in_layer c.args.id) (tree c.args.groups layer_tier c.in-Some.layer.now) ≡ shown (Some c.in-Some-find_under.found) =
    sym c.find_under.ensures ∙ ap shown c.in-Some-find_under.is in
    let all = rw c.in-Some.ensures.steps at c.loop-layer.invariant in
    let split = first_some-append (found_in_layer c.args.id) (tree c.args.groups layer_tier c.in-Some.layer.now)
    (drawn c.args.groups layer_tier c.next.new.self) in
    rw (split, own) at all

pub find_in_layers-loop-layer-preserved : goal.find_in_layers-loop-layer-preserved
find_in_layers-loop-layer-preserved t c =
    let own : first_some (found_in_layer c.args.id) (tree c.args.groups layer_tier c.in-Some.layer.now) ≡ None = sym c.find_under.ensures
    ∙ ap shown c.in_default.is in
    let all = rw c.in-Some.ensures.steps at c.loop-layer.invariant in
    let split = first_some-append (found_in_layer c.args.id) (tree c.args.groups layer_tier c.in-Some.layer.now)
    (drawn c.args.groups layer_tier c.next.new.self) in
    rw (split, own) at all

pub find_under-returns-in-Some : goal.find_under-returns-in-Some
find_under-returns-in-Some t c =
    first-own (found_in_layer c.args.id) (found-bare c.args.id) c.args.groups layer_tier c.args.layer.now (c.in-Some.found.0, c.in-Some.found.1.now)
    (sym c.find_in_layer.ensures ∙ ap shown c.in-Some.is)

pub find_under-returns-then-groups-eq0 : goal.find_under-returns-then-groups-eq0
find_under-returns-then-groups-eq0 t c =
    first-no_groups (found_in_layer c.args.id) (found-bare c.args.id) c.args.groups layer_tier c.args.layer.now
    (sym c.find_in_layer.ensures ∙ ap shown c.in_default.is) c.if-groups-eq0.true

pub find_under-returns-in-Some-layers : goal.find_under-returns-in-Some-layers
find_under-returns-in-Some-layers t c =
    c.find_in_layers.ensures
    ∙ first-group (found_in_layer c.args.id) (found-bare c.args.id) c.args.groups c.args.layer.now c.in-Some-layers.inside.now
    (sym c.find_in_layer.ensures ∙ ap shown c.in_default.is) c.if-groups-eq0.false
    (sym c.layers.ensures ∙ ap option_copied c.in-Some-layers.is)

pub find_under-returns-in-None : goal.find_under-returns-in-None
find_under-returns-in-None t c =
    first-no_group (found_in_layer c.args.id) (found-bare c.args.id) c.args.groups layer_tier c.args.layer.now
    (sym c.find_in_layer.ensures ∙ ap shown c.in_default.is) (sym c.layers.ensures ∙ ap option_copied c.in-None.is)
