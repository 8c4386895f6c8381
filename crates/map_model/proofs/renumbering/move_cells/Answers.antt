use Rattle.std.proofs.Common.{◌≡◌, ◌+◌, suc, length, refl, ap, ◌∙◌, arith}
use Rattle.map_model.specs.Renumbering.{KeepsTileset, value_moved}
use Rattle.map_model.proofs.Changes.{Each-at}
use Rattle.map_model.proofs.RenumberedCells.{changed_up, changed_up-all, read-changed_up, set-changed_up, within-changed_up}
use Rattle.map_model.proofs.renumbering.move_cells.Goals as goal

pub loop-at-init : goal.loop-at-init
loop-at-init c = refl

pub bounds-as_slice-at : goal.bounds-as_slice-at
bounds-as_slice-at c =
    within-changed_up (value_moved c.args.by.low c.args.by.end c.args.by.to) c.loop-at.at (length c.as_slice-at-end.result.now) c.args.cells.now
    c.as_slice.result.now (c.as_slice.ensures ∙ c.loop-at.invariant) (ap length c.as_slice-at-end.ensures) c.loop-at-test.true

pub moved-requires-clause-keeps : goal.moved-requires-clause-keeps
moved-requires-clause-keeps c =
    Each-at (KeepsTileset c.args.by.low c.args.by.end c.args.by.to) c.args.cells.now c.loop-at.at c.index-as_slice-at.result
    (read-changed_up (value_moved c.args.by.low c.args.by.end c.args.by.to) c.loop-at.at (length c.as_slice-at-end.result.now) c.args.cells.now
    c.as_slice.result.now (c.as_slice.ensures ∙ c.loop-at.invariant) (ap length c.as_slice-at-end.ensures) c.loop-at-test.true
    c.index-as_slice-at.result c.index-as_slice-at.is) c.requires.keep

pub set-requires : goal.set-requires
set-requires c =
    within-changed_up (value_moved c.args.by.low c.args.by.end c.args.by.to) c.loop-at.at (length c.as_slice-at-end.result.now) c.args.cells.now
    c.loop-at.cells c.loop-at.invariant (ap length c.as_slice-at-end.ensures) c.loop-at-test.true

pub loop-at-preserved : goal.loop-at-preserved
loop-at-preserved c =
    let f = value_moved c.args.by.low c.args.by.end c.args.by.to in
    let own = read-changed_up f c.loop-at.at (length c.as_slice-at-end.result.now) c.args.cells.now c.as_slice.result.now
    (c.as_slice.ensures ∙ c.loop-at.invariant) (ap length c.as_slice-at-end.ensures) c.loop-at-test.true c.index-as_slice-at.result c.index-as_slice-at.is in
    let next : c.loop-at.at + 1 ≡ suc c.loop-at.at = omega arith in
    rw (c.set.ensures, c.moved.ensures, c.loop-at.invariant, next) (set-changed_up f c.loop-at.at c.args.cells.now c.index-as_slice-at.result own)

pub returns : goal.returns
returns c =
    let f = value_moved c.args.by.low c.args.by.end c.args.by.to in
    let all : length c.as_slice-at-end.result.now ≡ length c.args.cells.now = ap length c.as_slice-at-end.ensures in
    let end : c.loop-at.at ≡ length c.args.cells.now = omega (arith, all, c.loop-at-test.false, c.loop-at.auto.at-end) in
    c.loop-at.invariant ∙ (ap (λ k. changed_up f k c.args.cells.now) end ∙ changed_up-all f c.args.cells.now)
