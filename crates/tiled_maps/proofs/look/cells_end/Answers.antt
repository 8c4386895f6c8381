use Rattle.std.proofs.Common.{◌≡◌, ◌<◌, ◌+◌, get_or, arith}
use Rattle.tiled_maps.proofs.LookBytes.{space_plain, more_follows}
use Rattle.tiled_maps.proofs.look.cells_end.Goals as goal

pub loop-at-preserved-then-text-at-eq32 : goal.loop-at-preserved-then-text-at-eq32
loop-at-preserved-then-text-at-eq32 c =
    let text = c.args.text.now in
    let l = c.loop-at in
    let end = c.cell_end-end.result in
    let some : l.at < end = omega (arith, c.cell_end-end.ensures.low, c.if-end-at.false) in
    let space : get_or text (end + 1) 0 ≡ 32 = c.if-text-at-eq32.true in
    let next = c.cell_end-end.ensures.bound some in
    let later = more_follows text (end + 1) c.requires.last next (λ e. omega arith) (λ e. omega arith) in (
      omega (arith, l.invariant.0),
      later,
      λ rest. l.invariant.2 (c.cell_end-end.ensures.plain some (space_plain text (end + 1) next space rest)),
    )

pub loop-at-preserved : goal.loop-at-preserved
loop-at-preserved c =
    let l = c.loop-at in
    let end = c.cell_end-end.result in
    let some : l.at < end = omega (arith, c.cell_end-end.ensures.low, c.if-end-at.false) in (
      omega (arith, l.invariant.0),
      c.cell_end-end.ensures.bound some,
      λ rest. l.invariant.2 (c.cell_end-end.ensures.plain some rest),
    )
