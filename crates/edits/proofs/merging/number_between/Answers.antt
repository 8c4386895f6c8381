use Rattle.std.proofs.Common.{◌≡◌, arith}
use Rattle.edits.proofs.Merged.{prefix-ComesBefore}
use Rattle.edits.proofs.merging.number_between.Goals as goal

pub returns : goal.returns
returns c =
    let low = c.loop-low.low in
    let same : c.loop-low.low ≡ c.loop-low.high = omega arith in
    record {
      within = omega arith;
      prefix = prefix-ComesBefore c.args.older.now c.args.newer.now low c.requires.ordered (omega arith) c.loop-low.invariant.prefix;
      back = rw same c.loop-low.invariant.back;
    }
