use Rattle.std.proofs.Common.{◌≡◌, ◌+◌, ◌<◌, ◌++◌, ◌∷◌, [], ◌∙◌, false, rules, sym, ap, length, take, drop, get_or, is_eq, arith}
use Rattle.std.proofs.lemmas.List.{take_rest, drop_all, drop_more}
use Rattle.region.specs.Cells.{cell_cmp}
use Rattle.map_model.specs.declared.edit.CellEdit.{CellEdit}
use Rattle.map_model.specs.CellEdits.{AreInRowOrder, cell}
use Rattle.edits.specs.Merging.{joined, joined_cell}
use Rattle.edits.proofs.Merged.{HasNoneBefore, first-HasNoneBefore, drop-HasNoneBefore, joined-none, joined-prefix, joined-met, joined-unmet, done_more}
use Rattle.edits.proofs.merging.joined_cells.Goals as goal
use Rattle.edits.proofs.merging.joined_cells.Goals.{then-not-is_empty+then-comes_before+in_ok-push_stretch, else-not-is_empty}
use Rattle.edits.proofs.merging.joined_cells.Goals.{else-not-is_empty-via-then-not-is_empty+else-comes_before, else-not-is_empty-via-else-not-is_empty}
use Rattle.edits.proofs.merging.joined_cells.Goals.{then-not-is_empty-2+then-is_same_cell, else-not-is_empty-2}
use Rattle.edits.proofs.merging.joined_cells.Goals.{else-not-is_empty-2-via-then-not-is_empty-2+else-is_same_cell, else-not-is_empty-2-via-else-not-is_empty-2}
use Rattle.map_model.proofs.SideBySide.{in_row_order-drop}

pub loop-cell-preserved : goal.loop-cell-preserved
loop-cell-preserved c =
    let j = c.loop-cell.cell-index in
    let n = c.cell-item.result in
    let ns = drop (j + 1) c.args.newer.now in
    let a = c.loop-cell.cells.items in
    let es = c.loop-cell.rest.now in
    let b = c.if-not-is_empty.cells.items in
    let fs = c.if-not-is_empty.rest.now in
    let whole = joined c.args.older.now c.args.newer.now in
    let next : drop j c.args.newer.now ≡ n ∷ ns = drop_more c.args.newer.now j n (omega arith) ∙ ap (λ m. m ∷ ns) (sym c.cell-item.is) in
    let before : a ++ joined es (n ∷ ns) ≡ whole = ap (λ ms. a ++ joined es ms) (sym next) ∙ c.loop-cell.invariant.done in
    let prefix : (b ++ joined fs (n ∷ ns) ≡ whole) × AreInRowOrder fs × HasNoneBefore fs n = elim c.if-not-is_empty.branch [
      | then-not-is_empty+then-comes_before+in_ok-push_stretch w ↦
          let p = w.number_of.result in
          rw (w.cells-is, w.rest-is, w.split_at.ensures.back) (
            done_more a (take p es) (joined (drop p es) (n ∷ ns)) (joined es (n ∷ ns)) whole w.push_stretch.new.cells.items
                (w.in_ok-push_stretch.ensures.items ∙ ap (λ ms. a ++ ms) w.split_at.ensures.front) before (joined-prefix n ns p es w.number_of.ensures),
            in_row_order-drop p es c.loop-cell.invariant.ordered,
            drop-HasNoneBefore n p es w.number_of.ensures,
          )
      | else-not-is_empty w ↦
          let none_before : HasNoneBefore es n = elim w.else-not-is_empty.branch [
            | else-not-is_empty-via-then-not-is_empty+else-comes_before v ↦ first-HasNoneBefore es n v.index-rest-0.result v.index-rest-0.is
                (sym v.comes_before.ensures ∙ v.if-comes_before.false)
            | else-not-is_empty-via-else-not-is_empty v ↦ λ l. absurd (search rules)
          ] in
          rw (w.cells-is, w.rest-is) (before, c.loop-cell.invariant.ordered, none_before)
    ] in
    let behind : (c.if-not-is_empty-2.cells.items ++ joined c.if-not-is_empty-2.rest.now ns ≡ whole) × AreInRowOrder c.if-not-is_empty-2.rest.now =
    elim c.if-not-is_empty-2.branch [
      | then-not-is_empty-2+then-is_same_cell w ↦
          let e = w.index-rest-0-then-is_same_cell.result in
          rw (w.cells-is, w.rest-is, take_rest fs 1) (
            done_more b (joined_cell e n) (joined (drop 1 fs) ns) (joined fs (n ∷ ns)) whole w.push_joined.new.cells.items w.push_joined.ensures.items prefix.0
                (joined-met n ns fs e w.index-rest-0-then-not-is_empty-2.result
                (search rules) w.index-rest-0-then-is_same_cell.is w.index-rest-0-then-not-is_empty-2.is
                (sym w.is_same_cell.ensures ∙ w.if-is_same_cell.true)),
            in_row_order-drop 1 fs prefix.1,
          )
      | else-not-is_empty-2 w ↦
          let other : 0 < length fs → (f : CellEdit) × (f ≡ get_or fs 0 f) × (is_eq (cell_cmp (cell f) (cell n)) ≡ false) = elim w.else-not-is_empty-2.branch [
            | else-not-is_empty-2-via-then-not-is_empty-2+else-is_same_cell v ↦
                λ l. (v.index-rest-0-then-not-is_empty-2.result, v.index-rest-0-then-not-is_empty-2.is, sym v.is_same_cell.ensures ∙ v.if-is_same_cell.false)
            | else-not-is_empty-2-via-else-not-is_empty-2 v ↦ λ l. absurd (search rules)
          ] in
          rw (w.cells-is, w.rest-is) (
            done_more b (n ∷ []) (joined fs ns) (joined fs (n ∷ ns)) whole w.push_reserved.new.self.items w.push_reserved.ensures.items prefix.0
                (joined-unmet n ns fs prefix.2 other),
            prefix.1,
          )
    ] in
    record { done = behind.0; ordered = behind.1; len = search rules; room = search rules }

pub returns : goal.returns
returns c =
    let a = c.loop-cell.cells.items in
    let es = c.loop-cell.rest.now in
    let none : drop c.loop-cell.cell-index c.args.newer.now ≡ [] = drop_all c.loop-cell.cell-index c.args.newer.now (omega arith) in
    c.in_ok-push_stretch-2.ensures.items ∙ ap (λ ms. a ++ ms) (sym (joined-none es)) ∙ ap (λ ns. a ++ joined es ns) (sym none) ∙ c.loop-cell.invariant.done
