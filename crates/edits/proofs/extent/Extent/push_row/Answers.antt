use Rattle.std.proofs.Common.{◌<◌, sym, ◌∙◌, arith}
use Rattle.edits.proofs.Extents.{changes-left, changes-right, changes-unselected}
use Rattle.edits.proofs.extent.Extent.push_row.Goals as goal

pub loop-columns-init : goal.loop-columns-init
loop-columns-init g c =
    let r = c.args.self.now in
    let h = c.requires.extent in
    (h.columns, c.requires.so_far ∙ sym (changes-left (g.C.Cover.over c.args.cover.now) r h c.args.y (omega (arith, h.rows_within, c.requires.row.1))))

pub push_columns-requires-clause-so_far : goal.push_columns-requires-clause-so_far
push_columns-requires-clause-so_far g c =
    let r = c.args.self.now in
    let h = c.requires.extent in
    let next = c.in-Some.ensures.some in
    c.loop-columns.invariant.1
    ∙ sym (changes-unselected (g.C.Cover.over c.args.cover.now) r h c.args.y c.loop-columns.from c.in-Some.columns.first
    (omega (arith, h.rows_within, c.requires.row.1)) next.start
    (omega (arith, next.some, next.fits, h.columns_within)) next.before)

pub returns : goal.returns
returns g c =
    let r = c.args.self.now in
    let h = c.requires.extent in
    let over = g.C.Cover.over c.args.cover.now in
    let row : c.args.y < h.layer.height = omega (arith, h.rows_within, c.requires.row.1) in
    c.loop-columns.invariant.1
    ∙ sym (changes-unselected over r h c.args.y c.loop-columns.from r.columns.end row c.loop-columns.invariant.0 h.columns_within c.in_default.ensures.none)
    ∙ sym (changes-right over r h c.args.y row)
