use Rattle.std.specs.Option.{ok_or}
use Rattle.std.proofs.Common.{ap, sym, ◌∙◌}
use Rattle.serde_json.specs.View.{items_view}
use Rattle.map_values.specs.Cells.{cells_of}
use Rattle.map_values.proofs.ReadCells.{no_prefix, one_more_cell, bad_cell, all_cells}
use Rattle.refusals.specs.declared.map_refusal.MapRefusal.TheVariants.{BadData}
use Rattle.map_values.proofs.cells.cells.Goals as goal

pub loop-at-init : goal.loop-at-init
loop-at-init g c = no_prefix c.in_ok-found.found.items _ c.in_ok-found.ensures.items

pub loop-at-preserved : goal.loop-at-preserved
loop-at-preserved g c =
    rw c.in_ok-push.ensures.items (sym
    (one_more_cell c.deref-value-items.result.now c.loop-at.at c.value-item.result c.loop-at-test.true c.value-item.is c.loop-at.found.items c.in-Some.cell
    (sym c.in-Some.ensures)) ∙ c.loop-at.invariant)

pub returns-in_default : goal.returns-in_default
returns-in_default g c =
    let whole = ap (λ vs. cells_of (items_view vs)) c.deref-value-items.ensures.value in
    let bad = bad_cell c.deref-value-items.result.now c.loop-at.at c.value-item.result c.loop-at-test.true c.value-item.is c.loop-at.found.items
    (sym c.in_default.ensures) in
    ap (λ o. ok_or o BadData) (sym whole ∙ sym c.loop-at.invariant ∙ bad)

pub returns : goal.returns
returns g c =
    let whole = ap (λ vs. cells_of (items_view vs)) c.deref-value-items.ensures.value in
    ap (λ o. ok_or o BadData) (sym whole ∙ sym c.loop-at.invariant ∙ all_cells c.deref-value-items.result.now c.loop-at.at c.loop-at.found.items
    c.loop-at-test.false)
