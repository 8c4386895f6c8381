use Rattle.std.proofs.Common.{◌≡◌, ◌-◌, ℕ, get_or, arith, refl, ap, subst, ◌∙◌}
use Rattle.std.specs.Vec.{vec_len}
use Rattle.undo_group.specs.Order.{ArePlaced, IsOrder}
use Rattle.undo_group.proofs.Shifting.{ArePlaced-shifted, is_order, placed_of, shifted_more, shifted_out, taken_out}
use Rattle.undo_group.proofs.order.Order.remove.Goals as goal

pub loop-at-init : goal.loop-at-init
loop-at-init c =
    let old = c.args.self.now in
    let s = c.swap_remove-place.ensures in
    let order : ArePlaced old.entries.items old.places.items c.len-last.result = rw c.len-last.ensures (placed_of old (vec_len old.entries) c.requires.order) in
    let count : vec_len old.places ≡ c.len-last.result = omega (arith, order.places) in (
      shifted_out old.entries.items old.places.items c.remove.new.self.items c.len-last.result (c.len-last.result - 1) c.args.entry c.index-moved.result.now
          c.swap_remove-place.result order (omega arith) (omega arith) c.index-moved.ensures s.value c.remove.ensures.items
          c.swap_remove-place.new.self.items (omega (arith, order.places))
          (λ d lt. s.by_index.0 d (omega (arith, order.places)) ∙ ap (λ (k : ℕ). get_or old.places.items (k - 1) d) count)
          (λ k d other lt. s.by_index.1 k d other (omega (arith, order.places))),
      refl,
    )

pub loop-at-preserved : goal.loop-at-preserved
loop-at-preserved c = (shifted_more _ _ _ _ _ c.loop-at.invariant.0 c.loop-at-test.true c.index-behind.ensures, c.loop-at.invariant.1)

pub returns-clause-order : goal.returns-clause-order
returns-clause-order c =
    let now = c.loop-at.self in
    subst (λ (k : ℕ). IsOrder now (k - 1)) c.len-last.ensures
    (is_order now _ (ArePlaced-shifted now.entries.items now.places.items _ c.loop-at.at c.loop-at.invariant.0 c.loop-at-test.false))

pub returns-clause-taken : goal.returns-clause-taken
returns-clause-taken c =
    let old = c.args.self.now in
    let order : ArePlaced old.entries.items old.places.items c.len-last.result = rw c.len-last.ensures (placed_of old (vec_len old.entries) c.requires.order) in
    rw c.loop-at.invariant.1 (
    taken_out old.entries.items old.places.items c.remove.new.self.items c.len-last.result (c.len-last.result - 1) c.args.entry c.index-moved.result.now
    c.swap_remove-place.result order (omega arith) (omega arith) c.index-moved.ensures c.swap_remove-place.ensures.value c.remove.ensures.items
    )
