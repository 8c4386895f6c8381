use Rattle.std.proofs.Common.{rules, arith}
use Rattle.std.proofs.lemmas.Result.{err_from_is_err_and}
use Rattle.xml_text.specs.Reading.{misc_turn, misc}
use Rattle.xml_text.proofs.Loops.{begins_to_go, more, last, fails}
use Rattle.xml_text.proofs.markup.misc.Goals as goal

pub loop-is_last-init : goal.loop-is_last-init
unfolding misc
loop-is_last-init c = record { utf8 = search rules; shorter = omega arith; goes = begins_to_go _ _ _ }

pub loop-is_last-preserved : goal.loop-is_last-preserved
loop-is_last-preserved c =
    let i = c.loop-is_last.invariant in
    let e = c.in_ok-is_last.ensures in
    record {
      utf8 = search rules;
      shorter = (let a = i.shorter in let b = e.shorter in omega (arith, a, b));
      goes = more misc_turn _ _ _ _ _ _ i.goes c.if-is_last.false e.turn (e.more c.if-is_last.false);
    }

pub returns-then-is_last-clause-text : goal.returns-then-is_last-clause-text
returns-then-is_last-clause-text c = last misc_turn _ _ _ _ _ c.loop-is_last.invariant.goes c.if-is_last.true c.in_ok-is_last.ensures.turn

pub returns-in_err-is_last-clause-text : goal.returns-in_err-is_last-clause-text
returns-in_err-is_last-clause-text c =
    let p = err_from_is_err_and c.from_residual.result c.from_residual.ensures.1 in
    rw (p.1, p.2) (fails misc_turn _ _ _ _ c.loop-is_last.invariant.goes c.in_err-is_last.ensures.turn)
