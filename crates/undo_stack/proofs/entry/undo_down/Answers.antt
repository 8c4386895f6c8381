use Rattle.std.proofs.Common.{◌≡◌, ◌+◌, ◌-◌, ◌<◌, ℕ, arith, length, length-set, refl, subst, ◌∙◌, take, drop, slice_index_or}
use Rattle.std.proofs.lemmas.List.{get_or_default}
use Rattle.undo_stack.specs.Sequence.{IsMoved, FitsDown, FitsUp}
use Rattle.undo_stack.specs.Entries.{entry_change, depth}
use Rattle.undo_stack.specs.Nestings.{nesting}
use Rattle.undo_stack.proofs.Sequences.{map-set_same}
use Rattle.undo_stack.proofs.Turns.{fits_last, moved_back, moved_none, moved_more}
use Rattle.undo_stack.proofs.entry.undo_down.Goals as goal

pub loop-left-init : goal.loop-left-init
loop-left-init g c =
    let f = entry_change g.C.Command.change in
    let xs = c.args.sequence.now in
    let d = c.args.document.now in
    let same : c.args.from ≡ c.args.to + (c.args.from - c.args.to) = omega (arith, c.requires.order) in
    let none = moved_none f xs c.args.from d c.requires.down c.requires.up in
    record {
      moved = subst (λ (n : ℕ). IsMoved f xs c.args.from d xs n d) same none;
      order = omega arith;
      within = omega (arith, c.requires.within, c.requires.order);
      depth = refl;
      nests = refl;
    }

pub undo-requires : goal.undo-requires
undo-requires g c =
    let f = entry_change g.C.Command.change in
    let xs = c.loop-left.sequence in
    let i = c.args.to + c.loop-left.left in
    let j = c.args.to + (c.loop-left.left - 1) in
    let d = c.loop-left.document in
    let v = slice_index_or xs j c.index-sequence-to.result in
    let m = c.loop-left.invariant.moved in
    let same : i ≡ j + 1 = omega arith in
    let inside : j < length xs = omega (arith, c.loop-left.invariant.within) in
    let is = get_or_default xs j _ v inside in
    let down = subst (λ (n : ℕ). FitsDown f (take n xs) d) same m.down in
    fits_last f xs v j d down inside is

pub loop-left-preserved : goal.loop-left-preserved
loop-left-preserved g c =
    let f = entry_change g.C.Command.change in
    let xs = c.loop-left.sequence in
    let i = c.args.to + c.loop-left.left in
    let j = c.args.to + (c.loop-left.left - 1) in
    let d = c.loop-left.document in
    let v = slice_index_or xs j c.index-sequence-to.result in
    let m = c.loop-left.invariant.moved in
    let same : i ≡ j + 1 = omega arith in
    let inside : j < length xs = omega (arith, c.loop-left.invariant.within) in
    let is = get_or_default xs j _ v inside in
    let down = subst (λ (n : ℕ). FitsDown f (take n xs) d) same m.down in
    let w = c.undo.new.self in
    let up = subst (λ (n : ℕ). FitsUp f (drop n xs) d) same m.up in
    let before = subst (λ (n : ℕ). IsMoved f c.args.sequence.now c.args.from c.args.document.now xs n d) same m in
    let e = c.undo.new.document in
    let one = moved_back f xs v w j d e down up inside is c.undo.ensures.turned in
    record {
      moved = moved_more f c.args.sequence.now xs _ c.args.from (j + 1) j c.args.document.now d e before one;
      order = omega (arith, c.loop-left.invariant.order);
      within = omega (arith, c.loop-left.invariant.within, length-set xs j w);
      depth = map-set_same depth xs v w j is c.undo.ensures.depth ∙ c.loop-left.invariant.depth;
      nests = map-set_same nesting xs v w j is c.undo.ensures.nests ∙ c.loop-left.invariant.nests;
    }
