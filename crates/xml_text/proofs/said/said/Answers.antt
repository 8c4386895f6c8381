use Rattle.std.proofs.Common.{List, ℕ, Ok, ap, rules}
use Rattle.std.proofs.lemmas.Result.{err_from_is_err_and}
use Rattle.xml_text.specs.Answers.{◌>>=◌}
use Rattle.xml_text.specs.Said.{said_turn, said}
use Rattle.xml_text.proofs.Loops.{goes_on, ends_with, fails, fails_on}
use Rattle.xml_text.proofs.said.said.Goals as goal

pub loop-out-preserved : goal.loop-out-preserved
loop-out-preserved c =
    let said = rw c.in-Some.is at c.in_ok-left.ensures.said in
    let shorter = rw c.in-Some.is at c.in_ok-left.ensures.shorter in
    record { utf8 = search rules; goes = goes_on (said_turn c.args.is_value) _ _ _ _ _ c.loop-out.invariant.goes shorter said }

pub returns-in_err-left : goal.returns-in_err-left
unfolding said
returns-in_err-left c =
    let p = err_from_is_err_and c.from_residual.result c.from_residual.ensures.1 in
    rw (p.1, p.2) (fails_on _ _ _ (fails (said_turn c.args.is_value) _ _ _ _ c.loop-out.invariant.goes c.in_err-left.ensures.said))

pub returns : goal.returns
unfolding said
returns c =
    ap (λ r. r >>= λ (x : List ℕ × List ℕ). Ok x.0)
    (ends_with (said_turn c.args.is_value) _ _ _ _ c.loop-out.invariant.goes (rw c.in_default.is at c.in_ok-left.ensures.said))
