use Rattle.std.proofs.Common.{◌≤◌, ◌+◌, length, arith, ap, refl}
use Rattle.lines.proofs.reader.LineReader.give.Goals as goal
use Rattle.lines.proofs.Ranges.{range_prefix, range_rest, length-range}

pub returns : goal.returns
returns c =
    let r = c.self.inside in
    let len = length-range r.buffer.items r.start r.end (omega (arith, c.self.invariant, r.buffer.ok.0)) in
    let n : c.args.len + c.args.separator ≤ length c.args.self.now.pending = c.requires in
    let h : r.start + (c.args.len + c.args.separator) ≤ r.end = omega (arith, len, n, ap (λ s. length s.pending) c.self.view_is, c.self.invariant) in
    let k : r.start + c.args.len ≤ r.end = omega arith in
    rw (← c.self.view_is, range_rest r.buffer.items r.start r.end (c.args.len + c.args.separator) h, range_prefix r.buffer.items r.start r.end c.args.len k)
    refl
