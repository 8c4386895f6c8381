use Rattle.std.proofs.Common.{◌≡◌, ℕ, List, Some, sym, ◌∙◌}
use Rattle.std.specs.List.{position, slice_get}
use Rattle.map_model.specs.declared.limits.TheConstants.{MAX_GROUPS}
use Rattle.map_model.specs.declared.parts.Layer.{Layer}
use Rattle.map_model.specs.Groups.{holds}
use Rattle.map_model.specs.Keeping.{layer_tier}
use Rattle.map_model.specs.Lists.{Distinct}
use Rattle.map_model.specs.WellFormed.{layer_ids}
use Rattle.map_model.proofs.LensLaws.{some-eq}
use Rattle.map_model.proofs.Places.{position-holder}
use Rattle.map_model.proofs.Walks.{own-found, own-changed}
use Rattle.map_model.proofs.groups.change_layer.Goals as goal

-- a layer that stands at a place and has the id is the first one with it
first-here : (id at : ℕ) (ls : List Layer) (k l : Layer) → Distinct (layer_ids ls) → slice_get ls at ≡ Some k → k.id ≡ id → slice_get ls at ≡ Some l
    → (l.id ≡ id) × (position (holds id MAX_GROUPS) ls ≡ Some at)
first-here id at ls k l distinct e own there =
    let same : k ≡ l = some-eq k l (sym e ∙ there) in
    let its : l.id ≡ id = rw same at own in
    (its, position-holder id MAX_GROUPS layer_tier ls at l there its distinct)

pub changed-requires : goal.changed-requires
changed-requires g c =
    let ls = c.args.layers.now in
    let l = c.get_mut.result.now in
    let there = c.get_mut.ensures.value in
    let here = first-here c.args.id c.in-Some.at ls c.in-Some.layer.now l c.requires.distinct c.in-Some.ensures c.if-layer-id.true there in
    c.requires.callable l (own-found c.args.id MAX_GROUPS ls c.in-Some.at l here.1 there here.0)

pub returns-in-Some : goal.returns-in-Some
returns-in-Some g c =
    let ls = c.args.layers.now in
    let l = c.get_mut.result.now in
    let there = c.get_mut.ensures.value in
    let here = first-here c.args.id c.in-Some.at ls c.in-Some.layer.now l c.requires.distinct c.in-Some.ensures c.if-layer-id.true there in
    record {
      layer = l;
      left = c.changed.new.layer;
      found = own-found c.args.id MAX_GROUPS ls c.in-Some.at l here.1 there here.0;
      call = c.changed.ensures;
      is = own-changed c.args.id MAX_GROUPS ls c.in-Some.at l here.1 there here.0 c.changed.new.layer;
    }
