use Rattle.std.proofs.Common.{◌-◌, ◌<◌, arith, length, length-set, refl, ◌∙◌}
use Rattle.undo_stack.specs.Entries.{entry_change, depth}
use Rattle.undo_stack.specs.Nestings.{nesting}
use Rattle.undo_stack.proofs.Sequences.{map-set_same}
use Rattle.undo_stack.proofs.Turns.{fits_below, moved_below, moved_none, moved_more}
use Rattle.undo_stack.proofs.entry.undo_each.Goals as goal

pub loop-at-init : goal.loop-at-init
loop-at-init g c = record {
  moved = moved_none _ _ _ _ c.requires.down c.requires.up;
  above = c.requires.order;
  within = c.requires.within;
  depth = refl;
  nests = refl;
}

pub undo-requires : goal.undo-requires
undo-requires g c =
    let xs = c.loop-at.entries.items in
    let j = c.loop-at.at - 1 in
    let v = c.index_mut.result.now in
    let m = c.loop-at.invariant.moved in
    let inside : j < length xs = omega (arith, c.loop-at.invariant.within) in
    fits_below (entry_change g.C.Command.change) xs v c.loop-at.at c.loop-at.document (omega arith) c.loop-at.invariant.within c.index_mut.ensures.value m.down

pub loop-at-preserved : goal.loop-at-preserved
loop-at-preserved g c =
    let f = entry_change g.C.Command.change in
    let xs = c.loop-at.entries.items in
    let i = c.loop-at.at in
    let j = i - 1 in
    let v = c.index_mut.result.now in
    let w = c.undo.new.self in
    let m = c.loop-at.invariant.moved in
    let inside : j < length xs = omega (arith, c.loop-at.invariant.within) in
    let within = c.loop-at.invariant.within in
    let is = c.index_mut.ensures.value in
    let below = moved_below f xs v w i c.loop-at.document c.undo.new.document (omega arith) within is m.down m.up c.undo.ensures.turned in
    record {
      moved = moved_more f _ _ _ _ _ _ _ _ _ m below;
      above = omega arith;
      within = omega (arith, c.loop-at.invariant.within, length-set xs j w);
      depth = map-set_same depth xs v w j c.index_mut.ensures.value c.undo.ensures.depth ∙ c.loop-at.invariant.depth;
      nests = map-set_same nesting xs v w j c.index_mut.ensures.value c.undo.ensures.nests ∙ c.loop-at.invariant.nests;
    }
