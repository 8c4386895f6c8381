use Rattle.std.proofs.Common.{◌≡◌, ◌<◌, ◌+◌, ◌-◌, ◌++◌, ◌∷◌, [], cond, false, true, drop, length, sym, ap, ◌∙◌, subst, arith, rules, append_assoc}
use Rattle.std.proofs.lemmas.Bool.{eqb-true}
use Rattle.std.proofs.lemmas.List.{length-drop, nil_from_length, take_all}
use Rattle.serde_json.specs.Written.{items_text}
use Rattle.map_model.specs.Lists.{Each}
use Rattle.map_model.specs.WellFormed.{IsTileValue}
use Rattle.map_values.specs.Arrays.{items_by, whole_tree}
use Rattle.map_values.proofs.Lists.{Each-right}
use Rattle.map_values.proofs.NumberTexts.{array_returns, one_more_round}
use Rattle.map_values.proofs.numbers.push_numbers.Goals.{then-later, else-later}
use Rattle.map_values.proofs.numbers.push_numbers.Goals as goal

pub loop-rest-preserved : goal.loop-rest-preserved
loop-rest-preserved c =
    let l = c.loop-rest in
    let s = c.split_at in
    let w = c.write_numbers-start in
    let split = s.ensures.by_index.0 in
    let several : 0 < length s.result.0.now = search rules in
    let from : c.if-later.from ≡ w.result + cond l.later 0 1 = elim c.if-later.branch [ then-later w ↦ search rules | else-later w ↦ search rules ] in
    let end = take_all (2816 - c.if-later.from) (drop c.if-later.from w.new.buffer) (simp length-drop (omega arith)) in
    record {
      text = ap (λ t. t ++ items_text true (items_by whole_tree s.result.1.now)) (c.in_ok-extend_from_slice.ensures.items ∙ ap (λ t. l.text.items ++ t) end)
          ∙ one_more_round l.text.items _ l.later l.rest.now s.result.0.now s.result.1.now w.new.buffer w.result c.if-later.from split several w.ensures.text
          from l.invariant.text;
      values = Each-right IsTileValue s.result.0.now s.result.1.now (subst (Each IsTileValue) split l.invariant.values);
    }

pub returns : goal.returns
returns c =
    let l = c.loop-rest in
    let none = nil_from_length l.rest.now (eqb-true (length l.rest.now) 0 (sym c.is_empty.ensures ∙ c.loop-rest-test.false)) in (
      c.in_ok-push-2.ensures.items
          ∙ (ap (λ ns. l.text.items ++ items_text l.later (items_by whole_tree ns)) (sym none)
          ∙ (l.invariant.text ∙ (ap (λ t. t ++ items_text false (items_by whole_tree c.args.numbers.now)) c.in_ok-push.ensures.items
          ∙ append_assoc c.args.text.now.items (91 ∷ []) (items_text false (items_by whole_tree c.args.numbers.now))))),
      array_returns c.args.numbers.now c.requires,
    )
