use Rattle.std.proofs.Common.{◌-◌, arith, ap, slice_range}
use Rattle.lines.proofs.Newlines.{none_at_all, cut_at_first}
use Rattle.lines.proofs.Ranges.{length-range}
use Rattle.lines.proofs.reader.LineReader.newline.Goals as goal

pub returns-then-self-clause-none : goal.returns-then-self-clause-none
returns-then-self-clause-none c =
    let r = c.self.inside in
    let len = length-range r.buffer.items r.start r.end (omega (arith, c.self.invariant, r.buffer.ok.0)) in
    let is = ap (λ s. s.pending) c.self.view_is in
    rw (← is) (none_at_all (slice_range r.buffer.items r.start r.end) (omega (arith, len, c.self.invariant, c.if-self.true)))

pub returns-clause-found : goal.returns-clause-found
returns-clause-found c =
    let r = c.self.inside in
    let len = length-range r.buffer.items r.start r.end (omega (arith, c.self.invariant, r.buffer.ok.0)) in
    let is = ap (λ s. s.pending) c.self.view_is in
    rw (← is) (cut_at_first (slice_range r.buffer.items r.start r.end) (r.newline - r.start) (omega (arith, c.self.invariant))
    (omega (arith, len, c.self.invariant, c.if-self.false)))
