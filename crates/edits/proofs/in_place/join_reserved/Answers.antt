use Rattle.std.proofs.Common.{◌≡◌, ℕ, ◌+◌, ◌-◌, ◌<◌, ◌≤◌, List, ◌++◌, ◌∷◌, [], ◌∙◌, add-zero, false, rules, sym, ap, length, take, drop, get_or, is_eq, arith}
use Rattle.std.proofs.lemmas.List.{drop_all, drop_more, drop-drop, get_or-drop, get_or_default, length-drop, take_rest}
use Rattle.region.specs.Cells.{cell_cmp}
use Rattle.map_model.specs.declared.edit.CellEdit.{CellEdit}
use Rattle.map_model.specs.CellEdits.{AreInRowOrder, cell}
use Rattle.map_model.proofs.SideBySide.{in_row_order-drop}
use Rattle.edits.specs.Merging.{IsNumberOf, joined, joined_cell}
use Rattle.edits.proofs.Merged.{HasNoneBefore, first-HasNoneBefore, drop-HasNoneBefore, joined-none, joined-prefix, joined-met, joined-unmet, done_more}
use Rattle.edits.proofs.in_place.join_reserved.Goals as goal
use Rattle.edits.proofs.in_place.join_reserved.Goals.{then-back-len+then-comes_before, else-back-len}
use Rattle.edits.proofs.in_place.join_reserved.Goals.{else-back-len-via-then-back-len+else-comes_before, else-back-len-via-else-back-len}
use Rattle.edits.proofs.in_place.join_reserved.Goals.{then-back-len-2+then-is_same_cell, else-back-len-2}
use Rattle.edits.proofs.in_place.join_reserved.Goals.{else-back-len-2-via-then-back-len-2+else-is_same_cell, else-back-len-2-via-else-back-len-2}

pub put_new-back-requires-clause-ordered : goal.put_new-back-requires-clause-ordered
put_new-back-requires-clause-ordered c =
    let xs = c.loop-at.cells.items in
    let back = c.loop-at.back in
    elim c.if-back-len.branch [
      | then-back-len+then-comes_before w ↦
          let p = w.number_of-count.result in
          let left : drop (back + p) w.pass.new.cells.items ≡ drop p (drop back xs) = w.pass.ensures.back ∙ sym (drop-drop p back xs) in
          rw (w.cells-is, w.back-is, left) (in_row_order-drop p (drop back xs) c.loop-at.invariant.ordered)
      | else-back-len w ↦ rw (w.cells-is, w.back-is) c.loop-at.invariant.ordered
    ]

pub loop-at-preserved : goal.loop-at-preserved
loop-at-preserved c =
    let at = c.loop-at.at in
    let n = c.index-newer-at.result in
    let ns = drop (at + 1) c.args.newer.now in
    let xs = c.loop-at.cells.items in
    let back = c.loop-at.back in
    let a = take c.loop-at.front xs in
    let es = drop back xs in
    let ys = c.if-back-len.cells.items in
    let behind = c.if-back-len.back in
    let b = take c.if-back-len.front ys in
    let fs = drop behind ys in
    let whole = joined c.args.cells.now.items c.args.newer.now in
    let next : drop at c.args.newer.now ≡ n ∷ ns = drop_more c.args.newer.now at n (omega arith) ∙ ap (λ m. m ∷ ns) (sym c.index-newer-at.is) in
    let before : a ++ joined es (n ∷ ns) ≡ whole = ap (λ ms. a ++ joined es ms) (sym next) ∙ c.loop-at.invariant.done in
    let first_is : (zs : List CellEdit) (k : ℕ) (e : CellEdit) → e ≡ get_or zs k e → e ≡ get_or (drop k zs) 0 e =
    λ zs k e is. is ∙ ap (λ i. get_or zs i e) (sym (add-zero k)) ∙ sym (get_or-drop k zs 0 e) in
    let prefix : (b ++ joined fs (n ∷ ns) ≡ whole) × AreInRowOrder fs × HasNoneBefore fs n
    × (c.if-back-len.cells.len + (length c.args.newer.now - at) ≤ c.if-back-len.cells.cap + (behind - c.if-back-len.front))
    × (c.if-back-len.front ≤ behind) = elim c.if-back-len.branch [
      | then-back-len+then-comes_before w ↦
          let p = w.number_of-count.result in
          let number : IsNumberOf es n p = rw (w.deref.ensures.value, take_rest xs back) at w.number_of-count.ensures in
          let left : drop (back + p) w.pass.new.cells.items ≡ drop p es = w.pass.ensures.back ∙ sym (drop-drop p back xs) in
          rw (w.cells-is, w.front-is, w.back-is, left) (
            done_more a (take p es) (joined (drop p es) (n ∷ ns)) (joined es (n ∷ ns)) whole (take (c.loop-at.front + p) w.pass.new.cells.items)
                w.pass.ensures.front before (joined-prefix n ns p es number),
            in_row_order-drop p es c.loop-at.invariant.ordered,
            drop-HasNoneBefore n p es number,
            omega (arith, w.pass.ensures.len, w.pass.ensures.capacity, c.loop-at.invariant.room, c.loop-at.invariant.order),
            omega (arith, c.loop-at.invariant.order),
          )
      | else-back-len w ↦
          let none_before : HasNoneBefore es n = elim w.else-back-len.branch [
            | else-back-len-via-then-back-len+else-comes_before v ↦
                first-HasNoneBefore es n v.index.result.now (first_is xs back v.index.result.now v.index.ensures)
                (sym v.comes_before.ensures ∙ v.if-comes_before.false)
            | else-back-len-via-else-back-len v ↦ λ l. absurd (omega (arith, l, length-drop back xs))
          ] in
          rw (w.cells-is, w.front-is, w.back-is) (before, c.loop-at.invariant.ordered, none_before, c.loop-at.invariant.room, c.loop-at.invariant.order)
    ] in
    let room = c.if-back-len-2.cells.cap + (c.if-back-len-2.back - c.if-back-len-2.front) in
    let done : (take c.if-back-len-2.front c.if-back-len-2.cells.items ++ joined (drop c.if-back-len-2.back c.if-back-len-2.cells.items) ns ≡ whole)
    × AreInRowOrder (drop c.if-back-len-2.back c.if-back-len-2.cells.items)
    × (c.if-back-len-2.cells.len + (length c.args.newer.now - (at + 1)) ≤ room) = elim c.if-back-len-2.branch [
      | then-back-len-2+then-is_same_cell w ↦
          let f = w.index-then-back-len-2.result.now in
          let e = get_or ys behind n in
          let inside : behind < length ys = omega arith in
          let left : drop (behind + 1) w.put_joined-front.new.cells.items ≡ drop 1 fs = w.put_joined-front.ensures.back ∙ sym (drop-drop 1 behind ys) in
          rw (w.cells-is, w.front-is, w.back-is, left) (
            done_more b (joined_cell e n) (joined (drop 1 fs) ns) (joined fs (n ∷ ns)) whole
                (take w.put_joined-front.result w.put_joined-front.new.cells.items) w.put_joined-front.ensures.front prefix.0
                (joined-met n ns fs e f (omega (arith, inside, length-drop behind ys)) (first_is ys behind e (get_or_default ys behind n e inside))
                (first_is ys behind f w.index-then-back-len-2.ensures) (sym w.is_same_cell.ensures ∙ w.if-is_same_cell.true)),
            in_row_order-drop 1 fs prefix.1,
            omega (
              arith,
              prefix.3,
              prefix.4,
              w.put_joined-front.ensures.least,
              w.put_joined-front.ensures.most,
              w.put_joined-front.ensures.len,
              w.put_joined-front.ensures.capacity,
            ),
          )
      | else-back-len-2 w ↦
          let other : 0 < length fs → (f : CellEdit) × (f ≡ get_or fs 0 f) × (is_eq (cell_cmp (cell f) (cell n)) ≡ false) = elim w.else-back-len-2.branch [
            | else-back-len-2-via-then-back-len-2+else-is_same_cell v ↦ λ l. (
              v.index-then-back-len-2.result.now,
              first_is ys behind v.index-then-back-len-2.result.now v.index-then-back-len-2.ensures,
              sym v.is_same_cell.ensures ∙ v.if-is_same_cell.false,
            )
            | else-back-len-2-via-else-back-len-2 v ↦ λ l. absurd (omega (arith, l, length-drop behind ys))
          ] in
          let first : take 1 (drop at c.args.newer.now) ≡ n ∷ [] = ap (take 1) next in
          let put : take (c.if-back-len.front + 1) w.put_new-back.new.cells.items ≡ b ++ n ∷ [] =
          rw (take_rest c.args.newer.now at, first) at w.put_new-back.ensures.front in
          rw (w.cells-is, w.front-is, w.back-is, w.put_new-back.ensures.back) (
            done_more b (n ∷ []) (joined fs ns) (joined fs (n ∷ ns)) whole (take (c.if-back-len.front + 1) w.put_new-back.new.cells.items) put prefix.0
                (joined-unmet n ns fs prefix.2 other),
            prefix.1,
            omega (arith, prefix.3, prefix.4, w.put_new-back.ensures.order, w.put_new-back.ensures.len, w.put_new-back.ensures.capacity),
          )
    ] in
    record { done = done.0; ordered = done.1; order = search rules; within = search rules; room = done.2 }

pub returns : goal.returns
returns c =
    let a = take c.loop-at.front c.loop-at.cells.items in
    let es = drop c.loop-at.back c.loop-at.cells.items in
    let none : drop c.loop-at.at c.args.newer.now ≡ [] = drop_all c.loop-at.at c.args.newer.now (omega arith) in
    c.close_gap.ensures ∙ ap (λ ms. a ++ ms) (sym (joined-none es)) ∙ ap (λ ns. a ++ joined es ns) (sym none) ∙ c.loop-at.invariant.done
