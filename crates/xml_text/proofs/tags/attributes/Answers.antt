use Rattle.std.proofs.Common.{rules, arith}
use Rattle.std.proofs.lemmas.Result.{err_from_is_err_and}
use Rattle.xml_text.specs.Reading.{attribute_turn, attributes}
use Rattle.xml_text.proofs.Loops.{begins_to_go, more, last, fails}
use Rattle.xml_text.proofs.tags.attributes.Goals as goal

pub loop-found-init : goal.loop-found-init
unfolding attributes
loop-found-init c = record {
  utf8 = search rules;
  shorter = omega arith;
  goes = rw c.new-found.ensures.items (begins_to_go _ _ _);
  places = rw c.new-found.ensures.items (omega arith);
}

pub loop-found-preserved : goal.loop-found-preserved
loop-found-preserved c =
    let i = c.loop-found.invariant in
    let e = c.in_ok-is_last.ensures in
    record {
      utf8 = search rules;
      shorter = (let a = i.shorter in let b = e.shorter in omega (arith, a, b));
      goes = more attribute_turn _ _ _ _ _ _ i.goes c.if-is_last.false e.turn (e.more c.if-is_last.false);
      places = e.places _ i.places;
    }

pub returns-then-is_last-clause-attributes : goal.returns-then-is_last-clause-attributes
returns-then-is_last-clause-attributes c = last attribute_turn _ _ _ _ _ c.loop-found.invariant.goes c.if-is_last.true c.in_ok-is_last.ensures.turn

pub returns-in_err-is_last-clause-attributes : goal.returns-in_err-is_last-clause-attributes
returns-in_err-is_last-clause-attributes c =
    let p = err_from_is_err_and c.from_residual.result c.from_residual.ensures.1 in
    rw (p.1, p.2) (fails attribute_turn _ _ _ _ c.loop-found.invariant.goes c.in_err-is_last.ensures.turn)
