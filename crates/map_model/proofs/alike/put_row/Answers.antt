use Rattle.std.proofs.Common.{◌≡◌, ◌+◌, ◌-◌, length, sym, ap, ◌∙◌, arith}
use Rattle.map_model.specs.CellEdits.{cell_number}
use Rattle.map_model.proofs.SideBySide.{set_from, set_from-step, set_from-end, row-set, row-below}
use Rattle.map_model.proofs.alike.put_row.Goals as goal

pub bounds-values-at : goal.bounds-values-at
bounds-values-at c =
    let fits = row-below c.args.width (length c.args.values.now) c.first-item.result c.args.row.now c.requires.row c.requires.inside c.in-len1-up.len_at_least
    c.first-item.is in
    omega (arith, fits)

pub loop-at-preserved : goal.loop-at-preserved
loop-at-preserved c =
    let end = cell_number c.args.width c.first-item.result + length c.args.row.now in
    sym (set_from-step c.args.value c.loop-at.at end c.loop-at.values c.loop-at-test.true) ∙ c.loop-at.invariant

pub returns-after-loop-at : goal.returns-after-loop-at
returns-after-loop-at c =
    let from = cell_number c.args.width c.first-item.result in
    let end = from + length c.args.row.now in
    let all : end - from ≡ length c.args.row.now = omega arith in
    sym (set_from-end c.args.value c.loop-at.at end c.loop-at.values c.loop-at-test.false)
    ∙ c.loop-at.invariant
    ∙ ap (λ n. set_from c.args.value from n c.args.values.now) all
    ∙ row-set c.args.width c.args.value c.first-item.result c.args.row.now c.args.values.now c.requires.row c.in-len1-up.len_at_least c.first-item.is
