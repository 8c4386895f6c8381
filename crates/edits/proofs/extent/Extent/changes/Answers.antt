use Rattle.std.proofs.Common.{◌≡◌, ◌*◌, ap, ◌∙◌, arith}
use Rattle.edits.specs.Laying.{changes_below}
use Rattle.edits.proofs.Extents.{changes-above, changes-all}
use Rattle.edits.proofs.extent.Extent.changes.Goals as goal

pub loop-y-init : goal.loop-y-init
loop-y-init g c = c.new-cells.ensures ∙ changes-above (g.C.Cover.over c.args.cover.now) c.args.self.now c.requires

pub returns : goal.returns
returns g c =
    let over = g.C.Cover.over c.args.cover.now in
    let all : c.loop-y.y ≡ c.args.self.now.rows.end = omega (arith, c.requires.rows) in
    c.loop-y.invariant ∙ ap (λ n. changes_below over c.args.self.now (n * c.args.self.now.width)) all ∙ changes-all over c.args.self.now c.requires
