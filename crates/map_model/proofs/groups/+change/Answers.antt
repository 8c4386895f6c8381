use Rattle.std.proofs.Common.{sym, ap, ◌∙◌, arith}
use mathlib.Core.List.{reverse}
use Rattle.map_model.specs.declared.parts.Body.TheVariants.{Group}
use Rattle.map_model.specs.declared.parts.Body.TheViews.{outs-Group}
use Rattle.map_model.proofs.Walks.{own-found, own-changed, other-groups, other-found, other-changed}
use Rattle.map_model.proofs.Ways.{leads-inside, way-some, way-split, way-within}
use Rattle.map_model.proofs.groups.+change.Goals as goal

pub change_along-unwrap-requires : goal.change_along-unwrap-requires
change_along-unwrap-requires g t c = c.split_last.ensures.variant.1 (way-some c.args.id c.args.groups c.args.layers.now c.args.way.now c.requires.way)

pub change_along-get_mut-layer-requires : goal.change_along-get_mut-layer-requires
change_along-get_mut-layer-requires g t c =
    let last = rw c.unwrap.ensures at c.split_last.ensures.cases in
    let way = way-split c.args.id c.args.groups c.args.layers.now c.args.way.now c.unwrap.result.1.now c.unwrap.result.0.now last.0 c.requires.way in
    way-within c.args.id c.args.groups c.args.layers.now (reverse c.unwrap.result.1.now) c.unwrap.result.0.now way

pub change_along-changed-requires : goal.change_along-changed-requires
change_along-changed-requires g t c =
    let last = rw c.unwrap.ensures at c.split_last.ensures.cases in
    let way = way-split c.args.id c.args.groups c.args.layers.now c.args.way.now c.unwrap.result.1.now c.unwrap.result.0.now last.0 c.requires.way in
    c.requires.callable c.get_mut-layer.result.now
    (own-found c.args.id c.args.groups c.args.layers.now c.unwrap.result.0.now c.get_mut-layer.result.now way.0 c.get_mut-layer.ensures.value
    c.if-layer-id.true)

pub change_along-returns-then-layer-id : goal.change_along-returns-then-layer-id
change_along-returns-then-layer-id g t c =
    let last = rw c.unwrap.ensures at c.split_last.ensures.cases in
    let way = way-split c.args.id c.args.groups c.args.layers.now c.args.way.now c.unwrap.result.1.now c.unwrap.result.0.now last.0 c.requires.way in
    let l = c.get_mut-layer.result.now in
    record {
      layer = l;
      left = c.changed.new.layer;
      found = own-found c.args.id c.args.groups c.args.layers.now c.unwrap.result.0.now l way.0 c.get_mut-layer.ensures.value c.if-layer-id.true;
      call = c.changed.ensures;
      is = own-changed c.args.id c.args.groups c.args.layers.now c.unwrap.result.0.now l way.0 c.get_mut-layer.ensures.value c.if-layer-id.true
          c.changed.new.layer;
    }

pub change_along-overflow_sub-groups : goal.change_along-overflow_sub-groups
change_along-overflow_sub-groups g t c =
    let last = rw c.unwrap.ensures at c.split_last.ensures.cases in
    let way = way-split c.args.id c.args.groups c.args.layers.now c.args.way.now c.unwrap.result.1.now c.unwrap.result.0.now last.0 c.requires.way in
    other-groups c.args.id c.args.groups c.args.layers.now c.unwrap.result.0.now c.get_mut-layer.result.now way.0 c.get_mut-layer.ensures.value
    c.if-layer-id.false

pub change_along-change_inside-requires : goal.change_along-change_inside-requires
change_along-change_inside-requires g t c κs within =
    let last = rw c.unwrap.ensures at c.split_last.ensures.cases in
    let way = way-split c.args.id c.args.groups c.args.layers.now c.args.way.now c.unwrap.result.1.now c.unwrap.result.0.now last.0 c.requires.way in
    let l = c.get_mut-layer.result.now in
    let leads = rw c.get_mut-layer.ensures.value at way.1 in
    let groups = other-groups c.args.id c.args.groups c.args.layers.now c.unwrap.result.0.now l way.0 c.get_mut-layer.ensures.value c.if-layer-id.false in
    let found = other-found c.args.id c.args.groups c.args.layers.now c.unwrap.result.0.now l way.0 c.get_mut-layer.ensures.value c.if-layer-id.false in (
      omega (arith, c.decreases, groups),
      (
        within.0,
        (
          within.1,
          (
            leads-inside c.args.id c.args.groups l (reverse c.unwrap.result.1.now) c.if-layer-id.false leads,
            λ k e. c.requires.callable k (sym found ∙ e),
          ),
        ),
      ),
    )

pub change_along-returns : goal.change_along-returns
change_along-returns g t c =
    let last = rw c.unwrap.ensures at c.split_last.ensures.cases in
    let way = way-split c.args.id c.args.groups c.args.layers.now c.args.way.now c.unwrap.result.1.now c.unwrap.result.0.now last.0 c.requires.way in
    let l = c.get_mut-layer.result.now in
    let e = c.change_inside.ensures in
    record {
      layer = e.layer;
      left = e.left;
      found = sym (other-found c.args.id c.args.groups c.args.layers.now c.unwrap.result.0.now l way.0 c.get_mut-layer.ensures.value c.if-layer-id.false)
          ∙ e.found;
      call = e.call;
      is = other-changed c.args.id c.args.groups c.args.layers.now c.unwrap.result.0.now l way.0 c.get_mut-layer.ensures.value c.if-layer-id.false
          c.change_inside.new.body e.left e.is;
    }

pub change_inside-returns : goal.change_inside-returns
change_inside-returns g t c =
    let e = rw c.in-Group.layers-is at c.change_along.ensures in
    record {
      layer = e.layer;
      left = e.left;
      found = rw (c.in-Group.is, outs-Group c.in-Group.layers) e.found;
      call = e.call;
      is = rw (c.in-Group.is, outs-Group c.in-Group.layers) (ap Group e.is);
    }
