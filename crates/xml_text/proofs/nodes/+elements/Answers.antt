use Rattle.std.proofs.Common.{◌≤◌, ◌-◌, length, rules, arith}
use Rattle.std.proofs.lemmas.Result.{err_from_is_err_and}
use Rattle.xml_text.specs.Reading.{node_turn, nodes, element_of}
use Rattle.xml_text.proofs.Loops.{begins_to_go, more, last, fails}
use Rattle.xml_text.proofs.PlaceLaws.{placed_longer, placed_more, attributes_wider, placed_in_order}
use Rattle.xml_text.proofs.Levels.{no_level, some_level}
use Rattle.xml_text.proofs.nodes.+elements.Goals as goal

pub nodes-loop-children-init : goal.nodes-loop-children-init
unfolding nodes
nodes-loop-children-init t c = record {
  utf8 = search rules;
  shorter = omega arith;
  goes = rw c.new-children.ensures.items (begins_to_go _ _ _);
  places = rw c.new-children.ensures.items (omega arith);
}

pub nodes-loop-children-preserved : goal.nodes-loop-children-preserved
nodes-loop-children-preserved t c =
    let i = c.loop-children.invariant in
    let e = c.in_ok-is_last.ensures in
    record {
      utf8 = search rules;
      shorter = (let a = i.shorter in let b = e.shorter in omega (arith, a, b));
      goes = more (node_turn (element_of c.args.levels)) _ _ _ _ _ _ i.goes c.if-is_last.false e.turn e.shorter;
      places = rw c.if-is_last.false at (e.places _ i.places);
    }

pub nodes-returns-then-is_last-clause-nodes : goal.nodes-returns-then-is_last-clause-nodes
nodes-returns-then-is_last-clause-nodes t c =
    last (node_turn (element_of c.args.levels)) _ _ _ _ _ c.loop-children.invariant.goes c.if-is_last.true c.in_ok-is_last.ensures.turn

pub nodes-returns-in_err-is_last-clause-nodes : goal.nodes-returns-in_err-is_last-clause-nodes
nodes-returns-in_err-is_last-clause-nodes t c =
    let p = err_from_is_err_and c.from_residual.result c.from_residual.ensures.1 in
    rw (p.1, p.2) (fails (node_turn (element_of c.args.levels)) _ _ _ _ c.loop-children.invariant.goes c.in_err-is_last.ensures.turn)

pub nodes-returns-then-is_last-clause-places : goal.nodes-returns-then-is_last-clause-places
nodes-returns-then-is_last-clause-places t c = rw c.if-is_last.true at (c.in_ok-is_last.ensures.places _ c.loop-children.invariant.places)

pub element-returns-then-levels-eq0-clause-element : goal.element-returns-then-levels-eq0-clause-element
element-returns-then-levels-eq0-clause-element t c = no_level _ _ c.if-levels-eq0.true

pub element-returns-clause-element : goal.element-returns-clause-element
element-returns-clause-element t c =
    rw (some_level c.args.levels c.args.bytes.now (omega (arith, c.if-levels-eq0.false))) c.element_by.ensures.element

pub element_by-returns-in-Some-clause-place : goal.element_by-returns-in-Some-clause-place
element_by-returns-in-Some-clause-place t c =
    let from = c.args.from in
    let end = c.args.whole - length c.in-Some.rest.now in
    let a : from ≤ c.args.whole - length c.args.bytes.now = search rules in
    let b = c.in_ok-key.ensures.shorter in
    let d = c.in_ok-found.ensures.shorter in
    let e = c.in-Some.ensures.shorter in
    let last : from ≤ end = omega (arith, a, b, d, e) in
    rw (c.made.ensures.place, c.new.ensures.items) (
      (omega arith, last, omega arith),
      (last, omega arith, omega arith),
      attributes_wider _ from _ end _ c.in_ok-found.ensures.places (omega (arith, a, b)) (omega (arith, e)),
      omega arith,
    )

pub element_by-returns-clause-place : goal.element_by-returns-clause-place
element_by-returns-clause-place t c =
    let from = c.args.from in
    let begin = c.args.whole - length c.in-Some-after.inner.now in
    let tag = c.args.whole - length c.in_ok-children.tag.now - 2 in
    let end = c.args.whole - length c.in_ok-rest.rest.now in
    let a : from ≤ c.args.whole - length c.args.bytes.now = search rules in
    let b = c.in_ok-key.ensures.shorter in
    let d = c.in_ok-found.ensures.shorter in
    let e = c.in-Some-after.ensures.shorter in
    let f = placed_in_order _ _ _ c.in_ok-children.ensures.places in
    let g = c.in_ok-rest.ensures.shorter in
    let first : from ≤ begin = omega (arith, a, b, d, e) in
    let second : begin ≤ tag = omega (arith, f) in
    let third : tag ≤ end = omega (arith, g) in
    rw c.made-2.ensures.place (
      (omega arith, omega (arith, first, second, third), omega arith),
      (first, second, third),
      attributes_wider _ from _ begin _ c.in_ok-found.ensures.places (omega (arith, a, b)) (omega (arith, e)),
      placed_longer begin _ tag _ c.in_ok-children.ensures.places (omega arith),
    )

pub node_turn-returns-in-Some-clause-places : goal.node_turn-returns-in-Some-clause-places
node_turn-returns-in-Some-clause-places t c = λ low h. placed_longer low _ _ _ h (omega (arith, c.in-Some.ensures.shorter))

pub node_turn-returns-in-Some-after-clause-places : goal.node_turn-returns-in-Some-after-clause-places
node_turn-returns-in-Some-after-clause-places t c = λ low h.
    placed_longer low _ _ _ h (omega (arith, c.in-Some-after.ensures.shorter, c.in_ok-rest.ensures.shorter))

pub node_turn-returns-in-Some-after-2-clause-places : goal.node_turn-returns-in-Some-after-2-clause-places
node_turn-returns-in-Some-after-2-clause-places t c = λ low h.
    placed_longer low _ _ _ h (omega (arith, c.in-Some-after-2.ensures.shorter, c.in_ok-rest-2.ensures.shorter))

pub node_turn-returns-in-Some-after-3-clause-places : goal.node_turn-returns-in-Some-after-3-clause-places
node_turn-returns-in-Some-after-3-clause-places t c = λ low h.
    rw c.in_ok-add_text.ensures.place (placed_more low (c.args.whole - length c.args.bytes.now) _ _ _ h c.in_ok-found.ensures.place)

pub node_turn-returns-in-Some-after-4-clause-places : goal.node_turn-returns-in-Some-after-4-clause-places
node_turn-returns-in-Some-after-4-clause-places t c = λ low h.
    rw c.in_ok-add_element.ensures.place (placed_more low (c.args.whole - length c.args.bytes.now) _ _ _ h c.in_ok-found-2.ensures.place)

pub node_turn-returns-clause-places : goal.node_turn-returns-clause-places
node_turn-returns-clause-places t c = λ low h.
    rw c.in_ok-add_text-2.ensures.place (placed_more low (c.args.whole - length c.args.bytes.now) _ _ _ h c.in_ok-found-3.ensures.place)
