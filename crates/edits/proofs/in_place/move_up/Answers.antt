use Rattle.std.proofs.Common.{◌≡◌, ◌+◌, ◌-◌, ◌≤◌, ◌++◌, length, take, drop, ap, ◌∙◌, arith, rules}
use Rattle.std.proofs.lemmas.List.{length-drop, length-take-le}
use Rattle.edits.proofs.InPlace.{moved_more}
use Rattle.edits.proofs.in_place.move_up.Goals as goal

pub loop-end-preserved : goal.loop-end-preserved
loop-end-preserved c =
    let count = c.min-count.result in
    let end = c.loop-end.end in
    let at = end - count in
    let by = c.args.by in
    let xs = c.args.cells.now.items in
    let ys = c.loop-end.cells.items in
    let last = c.args.cells.now.len - by in
    let least : count ≤ end = omega arith in
    let same : at + count ≡ end = omega arith in
    let is : ys ≡ take (at + count + by) xs ++ drop (at + count) (take last xs) = rw same c.loop-end.invariant.items in
    let more = moved_more xs ys at count by last (omega arith) (omega arith) is in
    let seen : c.deref.result.now ≡ ys = c.deref.ensures.value in
    let width : at + count - at ≡ count = omega arith in
    let long : length (take count (drop at ys)) ≡ count = length-take-le count (drop at ys) (omega (arith, length-drop at ys)) in
    let piece : take count c.keep_stretch.new.piece ≡ take count (drop at ys) = rw long at (rw (width, seen) at c.keep_stretch.ensures.cells) in
    let size : length (take count c.keep_stretch.new.piece) ≡ count = ap length piece ∙ long in
    record {
      least = omega arith;
      most = omega arith;
      items = c.put_stretch.ensures.items
          ∙ ap (λ k. take (at + by) ys ++ take count c.keep_stretch.new.piece ++ drop (at + by + k) ys) size
          ∙ ap (λ ts. take (at + by) ys ++ ts ++ drop (at + by + count) ys) piece
          ∙ more;
      len = search rules;
      cap = search rules;
    }
