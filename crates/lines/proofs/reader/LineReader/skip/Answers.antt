use Rattle.std.proofs.Common.{IsTrue, ap, ◌∙◌, sym, arith}
use Rattle.lines.proofs.Finding.{on_err, skips_past, skips_same, skips_all, skips_line}
use Rattle.lines.proofs.Asking.{asks_same, asks_on}
use Rattle.lines.proofs.reader.LineReader.skip.Goals as goal

pub returns-then-has_ended-clause-skipped : goal.returns-then-has_ended-clause-skipped
returns-then-has_ended-clause-skipped g c =
    let same = c.loop-self-test.ensures.none in
    let ended : IsTrue c.loop-self.self.ended = ap (λ s. s.ended) (sym same.1) ∙ ap (λ s. s.ended) (sym c.discard.ensures) ∙ sym c.has_ended.ensures
    ∙ c.if-has_ended.true in
    skips_all _ _ _ _ c.loop-self.invariant.input same.0 (ap (λ s. s.pending) c.discard.ensures) (c.loop-self.invariant.ended ended)

pub loop-self-preserved : goal.loop-self-preserved
loop-self-preserved g c =
    let calls = ap (λ s. s.calls) c.discard.ensures ∙ c.loop-self-test.ensures.others.calls in
    let last = ap (λ s. s.last_read) c.discard.ensures ∙ c.loop-self-test.ensures.others.last_read in
    let past = skips_past _ _ _ _ c.loop-self.invariant.input c.loop-self-test.ensures.none.0 (ap (λ s. s.pending) c.discard.ensures) in
    record {
      input = skips_same _ _ _ past c.in_ok-fill.ensures.same;
      asks = asks_on c.args.self.now (g.R.Read.remaining c.args.reader.now) c.discard.new.self (g.R.Read.remaining c.loop-self.reader) c.fill.new.self
          (g.R.Read.remaining c.fill.new.reader) past (asks_same c.args.self.now (g.R.Read.remaining c.args.reader.now) c.loop-self.self c.discard.new.self
          (g.R.Read.remaining c.loop-self.reader) c.loop-self.invariant.asks calls last) c.in_ok-fill.ensures.asks;
      ended = c.in_ok-fill.ensures.ended;
      untouched = λ e. absurd (omega (arith, e, calls, c.loop-self.invariant.called, c.in_ok-fill.ensures.counted));
      within = omega (arith, calls, c.loop-self.invariant.spent, c.in_ok-fill.ensures.counted, c.in_ok-fill.ensures.calls, c.in_ok-fill.ensures.fits);
      called = omega (arith, calls, c.loop-self.invariant.called, c.in_ok-fill.ensures.counted);
      spent = omega (arith, calls, c.loop-self.invariant.spent, c.in_ok-fill.ensures.counted);
    }

pub returns-clause-skipped : goal.returns-clause-skipped
returns-clause-skipped g c = skips_line _ _ _ _ _ c.loop-self.invariant.input c.loop-self-test.ensures.found.1 c.loop-self-test.ensures.found.0

pub returns-then-has_ended-clause-asks : goal.returns-then-has_ended-clause-asks
returns-then-has_ended-clause-asks g c =
    asks_same c.args.self.now (g.R.Read.remaining c.args.reader.now) c.loop-self.self c.discard.new.self
    (g.R.Read.remaining c.loop-self.reader) c.loop-self.invariant.asks (ap (λ s. s.calls) c.discard.ensures ∙ c.loop-self-test.ensures.others.calls)
    (ap (λ s. s.last_read) c.discard.ensures ∙ c.loop-self-test.ensures.others.last_read)

pub returns-in_err-fill-clause-asks : goal.returns-in_err-fill-clause-asks
returns-in_err-fill-clause-asks g c =
    let calls = ap (λ s. s.calls) c.discard.ensures ∙ c.loop-self-test.ensures.others.calls in
    let last = ap (λ s. s.last_read) c.discard.ensures ∙ c.loop-self-test.ensures.others.last_read in
    let past = skips_past _ _ _ _ c.loop-self.invariant.input c.loop-self-test.ensures.none.0 (ap (λ s. s.pending) c.discard.ensures) in
    asks_on c.args.self.now (g.R.Read.remaining c.args.reader.now) c.discard.new.self (g.R.Read.remaining c.loop-self.reader) c.fill.new.self
    (g.R.Read.remaining c.fill.new.reader) past (asks_same c.args.self.now (g.R.Read.remaining c.args.reader.now) c.loop-self.self c.discard.new.self
    (g.R.Read.remaining c.loop-self.reader) c.loop-self.invariant.asks calls last) c.in_err-fill.ensures.asks

pub returns-in_err-fill-clause-unfinished : goal.returns-in_err-fill-clause-unfinished
returns-in_err-fill-clause-unfinished g c =
    on_err c.from_residual.result (skips_same _ _ _
    (skips_past _ _ _ _ c.loop-self.invariant.input c.loop-self-test.ensures.none.0 (ap (λ s. s.pending) c.discard.ensures)) c.in_err-fill.ensures.same)

pub returns-clause-asks : goal.returns-clause-asks
returns-clause-asks g c = asks_same c.args.self.now (g.R.Read.remaining c.args.reader.now) c.loop-self.self c.cut.new.self
    (g.R.Read.remaining c.loop-self.reader) c.loop-self.invariant.asks c.loop-self-test.ensures.others.calls c.loop-self-test.ensures.others.last_read
