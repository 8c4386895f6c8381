use Rattle.std.proofs.Common.{◌≡◌, length, take, drop, sym, ap, ◌∙◌, subst}
use Rattle.map_model.specs.Lists.{Each}
use Rattle.map_model.specs.Alike.{fill_values}
use Rattle.map_model.specs.CellEdits.{IsBelow}
use Rattle.map_model.proofs.SideBySide.{Each-drop, fill_values-split, in_row_order-drop, length-fill_values}
use Rattle.map_model.proofs.alike.fill.Goals as goal

pub loop-rest-preserved-then-is_row_to : goal.loop-rest-preserved-then-is_row_to
loop-rest-preserved-then-is_row_to c =
    let w = c.args.width in
    let v = c.args.value in
    let n = c.row_length.result in
    let rest = c.loop-rest.rest.now in
    let vs = c.loop-rest.values in
    let row : c.put_row.new.values ≡ fill_values w v (take n rest) vs = c.put_row.ensures ∙ ap (λ es. fill_values w v es vs) c.split_at.ensures.front in
    let count : length vs ≡ length c.put_row.new.values = sym (ap length row ∙ length-fill_values w v (take n rest) vs) in
    rw c.split_at.ensures.back (record {
      values = ap (fill_values w v (drop n rest)) row ∙ fill_values-split w v n rest vs ∙ c.loop-rest.invariant.values;
      inside = subst (λ k. Each (IsBelow w k) (drop n rest)) count (Each-drop (IsBelow w (length vs)) n rest c.loop-rest.invariant.inside);
      ordered = in_row_order-drop n rest c.loop-rest.invariant.ordered;
    })
