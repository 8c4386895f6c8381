use Rattle.std.proofs.Common.{ap, ◌∙◌}
use Rattle.map_model.specs.declared.parts.Body.TheVariants.{Objects}
use Rattle.map_model.specs.declared.parts.Body.TheViews.{outs-Objects}
use Rattle.map_model.proofs.ObjectKeeps.{slice_set-change_at}
use Rattle.map_model.proofs.objects.change_in_body.Goals as goal

pub returns : goal.returns
returns g c =
    let e = c.change_at.ensures in
    let os = c.in-Objects.objects in
    let found = rw c.in-Objects.objects-is at e.found in
    let is = rw c.in-Objects.objects-is at e.is in
    rw (c.in-Objects.is, outs-Objects os)
    record {
      object = e.item;
      left = e.left;
      found = found;
      call = e.call;
      is = ap Objects (is ∙ slice_set-change_at (λ own. e.left) os c.args.at e.item found);
    }
