use Rattle.std.proofs.Common.{sym, ap, ◌∙◌}
use Rattle.map_model.specs.declared.limits.TheConstants.{MAX_GROUPS}
use Rattle.map_model.specs.declared.parts.Body.{Body}
use Rattle.map_model.specs.Lists.{change_at}
use Rattle.map_model.specs.Objects.{layer_with_objects}
use Rattle.map_model.proofs.TreeChanges.{changed_by}
use Rattle.map_model.proofs.objects.change_object.Goals as goal

pub returns : goal.returns
returns g c =
    let e = c.change_layer.ensures in
    let place = c.args.place in
    let layer = e.call.shown.now in
    let inner = e.call.met.0 in
    let f = layer_with_objects (change_at place.at (λ own. inner.left)) in
    record {
      object = inner.object;
      left = inner.left;
      found = rw (e.found, ← e.call.shows) inner.found;
      call = inner.call;
      is =
          changed_by place.layer MAX_GROUPS f c.args.layers.now c.change_layer.new.layers e.layer e.left e.found e.is
          (sym e.call.leaves ∙ (e.call.met.1 ∙ (ap (λ (b : Body). record layer { body = b }) inner.is ∙ ap f e.call.shows)));
    }
