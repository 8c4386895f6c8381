use Rattle.std.proofs.Common.{◌≡◌, ℕ, ◌+◌, List, [], ◌∷◌, ◌++◌, drop, sym, ap, ◌∙◌, append_assoc}
use Rattle.std.proofs.lemmas.List.{at_drop_more}
use Rattle.serde_json.specs.View.{view, items_view}
use Rattle.serde_json.specs.declared.value.Value.{Value}
use Rattle.infinite_maps.specs.Cells.{whole, wholes}
use Rattle.infinite_maps.proofs.cells.wholes.Goals as goal

pub loop-value-preserved : goal.loop-value-preserved
loop-value-preserved c =
    let l = c.loop-value in
    let vs = c.deref-value-items.result.now in
    let found = l.found.items in
    let rest : List ℕ = wholes (items_view (drop (l.value-index + 1) vs)) in
    let new : wholes (items_view (drop l.value-index vs)) ≡ c.whole.result ∷ rest
    = at_drop_more (λ (ws : List Value). wholes (items_view ws)) vs l.value-index c.value-item.result c.loop-value-test.true
    ∙ (ap (λ (v : Value). whole (view v) ∷ rest) (sym c.value-item.is) ∙ ap (λ (n : ℕ). n ∷ rest) (sym c.whole.ensures)) in
    rw c.in_ok-push.ensures.items (append_assoc found (c.whole.result ∷ []) rest ∙ (ap (λ (ns : List ℕ). found ++ ns) (sym new) ∙ l.invariant))
