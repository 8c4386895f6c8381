use Rattle.std.proofs.Common.{◌≡◌, ◌+◌, ◌*◌, ◌<◌, ap, ◌∙◌, arith, refl}
use Rattle.edits.specs.CellLists.{cells_in}
use Rattle.edits.specs.Laying.{changes_below}
use Rattle.edits.proofs.Extents.{changes-next}
use Rattle.edits.proofs.extent.Extent.push_columns.Goals as goal

pub loop-x-init : goal.loop-x-init
loop-x-init g c = c.requires.so_far

pub loop-x-preserved : goal.loop-x-preserved
loop-x-preserved g c =
    let r = c.args.self.now in
    let x = c.loop-x.x in
    let h = c.requires.extent in
    let column : x < r.width = omega (arith, h.columns_within, c.requires.columns.1) in
    let row : c.args.y < h.layer.height = omega (arith, h.rows_within, c.requires.row.1) in
    changes-next (g.C.Cover.over c.args.cover.now) r h x c.args.y _ c.index-self-number.result c.value.result (cells_in c.loop-x.cells)
    (cells_in c.push_change.new.cells) column row
    (c.requires.selected x (omega arith) (omega arith)) refl c.value.ensures c.loop-x.invariant c.in_ok-push_change.ensures

pub returns : goal.returns
returns g c =
    let all : c.loop-x.x ≡ c.args.columns.end = omega (arith, c.requires.columns.0) in
    c.loop-x.invariant ∙ ap (λ n. changes_below (g.C.Cover.over c.args.cover.now) c.args.self.now (c.args.y * c.args.self.now.width + n)) all
