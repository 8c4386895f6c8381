use Rattle.std.proofs.Common.{◌≡◌, ◌+◌, ◌<◌, ap, sym, ◌∙◌, arith, refl}
use Rattle.edits.specs.CellLists.{cells_in}
use Rattle.edits.specs.Covering.{lets_change}
use Rattle.edits.proofs.Extents.{changes-before_one, changes-next, changes-of_one, changes-unselected}
use Rattle.edits.proofs.extent.Extent.change_of_cell.Goals as goal

pub returns-then-not-lets_change : goal.returns-then-not-lets_change
returns-then-not-lets_change g c =
    let r = c.args.self.now in
    let h = c.requires.extent in
    let over = g.C.Cover.over c.args.cover.now in
    let row : r.rows.first < h.layer.height = omega (arith, h.rows_within, c.requires.row) in
    c.new-cells.ensures ∙ changes-before_one over r h row
    ∙ sym (changes-unselected over r h r.rows.first r.columns.first (r.columns.first + 1) row (omega arith) (omega (arith, h.columns_within, c.requires.column))
    (λ x a b. let same : x ≡ r.columns.first = omega arith in ap (λ n. lets_change r.selection.now (n, r.rows.first)) same ∙ sym c.if-not-lets_change.ensures))
    ∙ changes-of_one over r h c.requires.column c.requires.row

pub returns : goal.returns
returns g c =
    let r = c.args.self.now in
    let h = c.requires.extent in
    let over = g.C.Cover.over c.args.cover.now in
    let row : r.rows.first < h.layer.height = omega (arith, h.rows_within, c.requires.row) in
    let column : r.columns.first < r.width = omega (arith, h.columns_within, c.requires.column) in
    changes-next over r h r.columns.first r.rows.first _ c.index-self-number.result c.value.result (cells_in c.new-cells.result)
    (cells_in c.push_change.new.cells) column row
    (sym c.if-not-lets_change.ensures) refl c.value.ensures (c.new-cells.ensures ∙ changes-before_one over r h row) c.in_ok-push_change.ensures
    ∙ changes-of_one over r h c.requires.column c.requires.row
