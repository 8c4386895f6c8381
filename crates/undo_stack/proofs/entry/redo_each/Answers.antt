use Rattle.std.proofs.Common.{◌<◌, arith, length, length-set, refl, ◌∙◌}
use Rattle.undo_stack.specs.Entries.{entry_change, depth}
use Rattle.undo_stack.specs.Nestings.{nesting}
use Rattle.undo_stack.proofs.Sequences.{map-set_same}
use Rattle.undo_stack.proofs.Turns.{fits_next, moved_on, moved_none, moved_more}
use Rattle.undo_stack.proofs.entry.redo_each.Goals as goal

pub loop-at-init : goal.loop-at-init
loop-at-init g c = record {
  moved = moved_none _ _ _ _ c.requires.down c.requires.up;
  below = c.requires.order;
  within = c.requires.within;
  depth = refl;
  nests = refl;
}

pub redo-requires : goal.redo-requires
redo-requires g c =
    let xs = c.loop-at.entries.items in
    let j = c.loop-at.at in
    let v = c.index_mut.result.now in
    let inside : j < length xs = omega (arith, c.loop-at.invariant.within) in
    fits_next (entry_change g.C.Command.change) xs v j c.loop-at.document c.loop-at.invariant.moved.up inside c.index_mut.ensures.value

pub loop-at-preserved : goal.loop-at-preserved
loop-at-preserved g c =
    let f = entry_change g.C.Command.change in
    let xs = c.loop-at.entries.items in
    let j = c.loop-at.at in
    let v = c.index_mut.result.now in
    let w = c.redo.new.self in
    let m = c.loop-at.invariant.moved in
    let inside : j < length xs = omega (arith, c.loop-at.invariant.within) in
    let above = moved_on f xs v w j c.loop-at.document c.redo.new.document m.down m.up inside c.index_mut.ensures.value c.redo.ensures.turned in
    record {
      moved = moved_more f _ _ _ _ _ _ _ _ _ m above;
      below = omega arith;
      within = omega (arith, c.loop-at.invariant.within, length-set xs j w);
      depth = map-set_same depth xs v w j c.index_mut.ensures.value c.redo.ensures.depth ∙ c.loop-at.invariant.depth;
      nests = map-set_same nesting xs v w j c.index_mut.ensures.value c.redo.ensures.nests ∙ c.loop-at.invariant.nests;
    }
