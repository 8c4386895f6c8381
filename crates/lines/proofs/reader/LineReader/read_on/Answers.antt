use Rattle.std.proofs.Common.{◌≡◌, ◌<◌, ◌^◌, length, IsTrue, ◌∙◌, sym, ap, arith}
use Rattle.lines.proofs.Finding.{on_err, finds_short, finds_long, finds_last, same_trans, skips_none, same_skips}
use Rattle.lines.proofs.Asking.{asks_same, asks_on}
use Rattle.lines.proofs.reader.LineReader.read_on.Goals as goal

pub returns-then-len-eq-CAPACITY-clause-found : goal.returns-then-len-eq-CAPACITY-clause-found
returns-then-len-eq-CAPACITY-clause-found g c =
    let size = sym c.pending_len-len.ensures.value ∙ c.if-len-eq-CAPACITY.true in
    finds_long _ _ _ _ _ c.loop-self.invariant.input c.loop-self.invariant.none size c.in_ok-skip.ensures.skipped

pub returns-then-has_ended-clause-found : goal.returns-then-has_ended-clause-found
returns-then-has_ended-clause-found g c =
    let n = c.pending_len-len.result in
    let size : n ≡ length c.loop-self.self.pending = c.pending_len-len.ensures.value in
    let ended : IsTrue c.loop-self.self.ended = sym c.has_ended.ensures ∙ c.if-has_ended.true in
    let below : n < 2 ^ 16 = omega (arith, c.pending_len-len.ensures.value, c.pending_len-len.ensures.fits, c.if-len-eq-CAPACITY.false) in
    rw c.give.ensures (finds_last _ _ _ n c.loop-self.invariant.input
    (c.loop-self.invariant.ended ended) c.loop-self.invariant.none size c.if-len-eq0.false below)

pub returns-then-cut-clause-found : goal.returns-then-cut-clause-found
returns-then-cut-clause-found g c = finds_short _ _ _ _ _ (same_trans _ _ _ c.loop-self.invariant.input c.in_ok-fill.ensures.same) c.if-cut.ensures.found.1
    c.if-cut.ensures.found.0 c.if-cut.ensures.short

pub returns-in_err-skip-clause-asks : goal.returns-in_err-skip-clause-asks
returns-in_err-skip-clause-asks g c = asks_on c.args.self.now (g.R.Read.remaining c.args.reader.now) c.loop-self.self
    (g.R.Read.remaining c.loop-self.reader) c.skip.new.self (g.R.Read.remaining c.skip.new.reader)
    (skips_none _ _ c.loop-self.invariant.input) c.loop-self.invariant.asks c.in_err-skip.ensures.asks

pub returns-in_err-skip-clause-unfinished : goal.returns-in_err-skip-clause-unfinished
returns-in_err-skip-clause-unfinished g c = on_err c.from_residual.result (same_skips _ _ _ c.loop-self.invariant.input c.in_err-skip.ensures.unfinished)

pub returns-in_err-fill-clause-unfinished : goal.returns-in_err-fill-clause-unfinished
returns-in_err-fill-clause-unfinished g c = on_err c.from_residual-in_err-fill.result
    (skips_none _ _ (same_trans _ _ _ c.loop-self.invariant.input c.in_err-fill.ensures.same))

pub returns-then-len-eq-CAPACITY-clause-asks : goal.returns-then-len-eq-CAPACITY-clause-asks
returns-then-len-eq-CAPACITY-clause-asks g c = asks_on c.args.self.now (g.R.Read.remaining c.args.reader.now) c.loop-self.self
    (g.R.Read.remaining c.loop-self.reader) c.skip.new.self (g.R.Read.remaining c.skip.new.reader)
    (skips_none _ _ c.loop-self.invariant.input) c.loop-self.invariant.asks c.in_ok-skip.ensures.asks

pub returns-then-len-eq0-clause-asks : goal.returns-then-len-eq0-clause-asks
returns-then-len-eq0-clause-asks g c = c.loop-self.invariant.asks

pub returns-then-has_ended-clause-asks : goal.returns-then-has_ended-clause-asks
returns-then-has_ended-clause-asks g c = asks_same c.args.self.now (g.R.Read.remaining c.args.reader.now) c.loop-self.self c.give.new.self
    (g.R.Read.remaining c.loop-self.reader) c.loop-self.invariant.asks (ap (λ s. s.calls) c.give.ensures) (ap (λ s. s.last_read) c.give.ensures)

pub returns-in_err-fill-clause-asks : goal.returns-in_err-fill-clause-asks
returns-in_err-fill-clause-asks g c = asks_on c.args.self.now (g.R.Read.remaining c.args.reader.now) c.loop-self.self
    (g.R.Read.remaining c.loop-self.reader) c.fill.new.self (g.R.Read.remaining c.fill.new.reader)
    (skips_none _ _ c.loop-self.invariant.input) c.loop-self.invariant.asks c.in_err-fill.ensures.asks

pub returns-then-cut-clause-asks : goal.returns-then-cut-clause-asks
returns-then-cut-clause-asks g c =
    let on = asks_on c.args.self.now (g.R.Read.remaining c.args.reader.now) c.loop-self.self (g.R.Read.remaining c.loop-self.reader) c.fill.new.self
    (g.R.Read.remaining c.fill.new.reader) (skips_none _ _ c.loop-self.invariant.input) c.loop-self.invariant.asks c.in_ok-fill.ensures.asks in
    asks_same c.args.self.now (g.R.Read.remaining c.args.reader.now) c.fill.new.self c.cut.new.self
    (g.R.Read.remaining c.fill.new.reader) on c.if-cut.ensures.others.calls c.if-cut.ensures.others.last_read
