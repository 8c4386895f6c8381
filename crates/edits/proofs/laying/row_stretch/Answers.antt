use Rattle.std.proofs.Common.{rules, ◌≡◌, ◌+◌, ◌-◌, ◌*◌, ◌≤◌, length, Some, arith}
use Rattle.edits.specs.Blocks.{block_of, offset}
use Rattle.edits.proofs.RowStretches.{no_row, stretch-within, some_row, value-under}
use Rattle.edits.proofs.laying.row_stretch.Goals as goal

pub returns-then-down-rows : goal.returns-then-down-rows
returns-then-down-rows c =
    let at : offset c.args.block.now.y c.args.y ≡ Some c.in-Some-offset.down = search rules in
    let b = block_of c.args.block.now in
    let more : c.args.rows * c.args.block.now.width ≤ c.in-Some-offset.down * c.args.block.now.width = grind (arith, c.if-down-rows.true) in
    let below : length c.args.block.now.values.now ≤ c.in-Some-offset.down * c.args.block.now.width = omega (arith, c.requires.whole, more) in
    no_row b c.args.width c.args.y c.args.columns c.requires.columns (λ x. value-under b c.args.y x c.in-Some-offset.down at below)

pub slice_bounds-result-end : goal.slice_bounds-result-end
slice_bounds-result-end c =
    let right : offset c.args.block.now.x c.args.columns.first ≡ Some c.in-Some.right = search rules in
    let down : offset c.args.block.now.y c.args.y ≡ Some c.in-Some-offset.down = search rules in
    let fits = stretch-within (block_of c.args.block.now) c.args.width c.args.y c.args.columns c.requires.columns c.in-Some.right c.in-Some-offset.down
    c.args.rows (omega arith)
    right down (omega arith) c.requires.whole in
    search rules

pub returns : goal.returns
returns c =
    let right : offset c.args.block.now.x c.args.columns.first ≡ Some c.in-Some.right = search rules in
    let down : offset c.args.block.now.y c.args.y ≡ Some c.in-Some-offset.down = search rules in
    let from = c.in-Some-offset.down * c.args.block.now.width + c.in-Some.right in
    let count = c.args.columns.end - c.args.columns.first in
    let same : from + count - from ≡ count = omega arith in
    rw same (some_row (block_of c.args.block.now) c.args.width c.args.y c.args.columns c.requires.columns c.in-Some.right c.in-Some-offset.down c.args.rows
    (omega arith)
    right down (omega arith) c.requires.whole)
