use Rattle.std.proofs.Common.{◌≡◌, ◌+◌, ◌-◌, ◌^◌, ◌≤◌, length, arith, slice_range, sym, ap, ◌∙◌, inl}
use Rattle.lines.specs.Reading.{first_newline}
use Rattle.lines.proofs.Newlines.{first_moved, first_filled}
use Rattle.std.proofs.lemmas.List.{with_items_is}
use Rattle.lines.proofs.reader.LineReader.fill.Goals as goal
use Rattle.lines.proofs.Ranges.{length-range, read_in, not_read, same_input, same_keeps}
use Rattle.lines.proofs.Asking.{came_given, came_keeps}

pub returns-clause-same : goal.returns-clause-same
returns-clause-same g c =
    let r = c.self.inside in
    let is = with_items_is r.buffer c.refill-start.new.bytes (omega (arith, c.refill-start.auto.bytes, c.deref_mut.ensures.len)) in
    let was : slice_range c.deref_mut.result.now r.start r.end ≡ c.args.self.now.pending = ap (λ xs. slice_range xs r.start r.end) c.deref_mut.ensures.value
    ∙ ap (λ s. s.pending) c.self.view_is in
    same_input _ _ _ _ _ (read_in _ _ _ _ c.refill-start.result.0 (r.end - r.start) c.in-Ok.n is c.refill-start.ensures.same was)
    (rw c.in-Ok.is at c.refill-start.ensures.ok)

pub returns-in-Err-clause-same : goal.returns-in-Err-clause-same
returns-in-Err-clause-same g c =
    let r = c.self.inside in
    let is = with_items_is r.buffer c.refill-start.new.bytes (omega (arith, c.refill-start.auto.bytes, c.deref_mut.ensures.len)) in
    let was : slice_range c.deref_mut.result.now r.start r.end ≡ c.args.self.now.pending = ap (λ xs. slice_range xs r.start r.end) c.deref_mut.ensures.value
    ∙ ap (λ s. s.pending) c.self.view_is in
    same_keeps _ _ _ _ (not_read _ _ _ _ c.refill-start.result.0 (r.end - r.start) is c.refill-start.ensures.same was)
    (rw c.in-Err.is at c.refill-start.ensures.err)

pub returns-clause-asks : goal.returns-clause-asks
returns-clause-asks g c =
    let offset = c.refill-start.result.0 + (c.self.inside.end - c.self.inside.start) in
    inl (
      omega (arith, ap (λ s. s.calls) c.self.view_is),
      came_given _ _ _ _ _ c.requires.none
          (omega (
            arith,
            length-range c.refill-start.new.bytes offset (offset + c.in-Ok.n)
                (omega (arith, rw c.in-Ok.is at c.refill-start.ensures.within, c.refill-start.auto.bytes)),
          )) (rw c.in-Ok.is at c.refill-start.ensures.ok),
    )

pub returns-in-Err-clause-asks : goal.returns-in-Err-clause-asks
returns-in-Err-clause-asks g c = inl (
  omega (arith, ap (λ s. s.calls) c.self.view_is),
  came_keeps _ _ _ c.requires.none
      (rw c.in-Err.is at c.refill-start.ensures.err),
)

pub invariant_of-self : goal.invariant_of-self
invariant_of-self g c =
    let r = c.self.inside in
    let inv = c.self.invariant in
    let pending = ap (λ s. s.pending) c.self.view_is in
    let is = with_items_is r.buffer c.refill-start.new.bytes (omega (arith, c.refill-start.auto.bytes, c.deref_mut.ensures.len)) in
    let was : slice_range c.deref_mut.result.now r.start r.end ≡ c.args.self.now.pending = ap (λ xs. slice_range xs r.start r.end) c.deref_mut.ensures.value
    ∙ pending in
    let len : length c.args.self.now.pending ≡ r.end - r.start = ap length (sym pending)
    ∙ length-range r.buffer.items r.start r.end (omega (arith, inv, r.buffer.ok.0)) in
    let within : c.refill-start.result.0 + (r.end - r.start) ≤ 2 ^ 16 = omega (arith, c.refill-start.ensures.room, c.deref_mut.ensures.len, inv.0) in (
      inv.0,
      omega arith,
      within,
      omega arith,
      omega arith,
      omega (arith, inv, c.if-self-ge-MAX_CALLS.false),
      first_moved _ _ c.refill-start.result.0 (r.end - r.start) (not_read _ _ _ _ _ (r.end - r.start) is c.refill-start.ensures.same was) c.requires.none len,
    )

pub invariant_of-self-2 : goal.invariant_of-self-2
invariant_of-self-2 g c =
    let r = c.self.inside in
    let inv = c.self.invariant in
    let n = c.in-Ok.n in
    let s = c.refill-start.result.0 in
    let i = r.end - r.start in
    let pending = ap (λ s. s.pending) c.self.view_is in
    let is = with_items_is r.buffer c.refill-start.new.bytes (omega (arith, c.refill-start.auto.bytes, c.deref_mut.ensures.len)) in
    let was : slice_range c.deref_mut.result.now r.start r.end ≡ c.args.self.now.pending = ap (λ xs. slice_range xs r.start r.end) c.deref_mut.ensures.value
    ∙ pending in
    let len : length c.args.self.now.pending ≡ i = ap length (sym pending) ∙ length-range r.buffer.items r.start r.end (omega (arith, inv, r.buffer.ok.0)) in
    let within : s + i + n ≤ 2 ^ 16 = omega (arith, rw c.in-Ok.is at c.refill-start.ensures.within, c.deref_mut.ensures.len, inv.0) in
    let found = c.newline_at.ensures.offset ∙ ap (λ xs. first_newline (slice_range xs (s + i) (s + i + n))) (c.deref.ensures.value ∙ is) in (
      inv.0,
      omega arith,
      within,
      omega arith,
      omega arith,
      omega (arith, inv, c.if-self-ge-MAX_CALLS.false),
      first_filled _ _ _ s i c.newline_at.result (read_in _ _ _ _ s i n is c.refill-start.ensures.same was) c.requires.none len found,
    )
