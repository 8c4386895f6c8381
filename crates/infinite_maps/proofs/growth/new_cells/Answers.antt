use Rattle.std.proofs.Common.{◌≡◌, ℕ, ◌+◌, List, [], ◌∷◌, ◌++◌, Bool, sym, ap, ◌∙◌, add-one, append-nil}
use Rattle.std.specs.Prelude.{if◌then◌else◌}
use Rattle.infinite_maps.specs.declared.rectangle.Rectangle.{Rectangle}
use Rattle.infinite_maps.specs.Rectangles.{place, cell_of}
use Rattle.infinite_maps.specs.Growth.{is_new, new_cells}
use Rattle.infinite_maps.proofs.growth.new_cells.Goals as goal
use Rattle.infinite_maps.proofs.growth.new_cells.Goals.{then-is_new+in_ok-push, else-is_new}

one_more : (columns : ℕ) (cells : List ℕ) (cover : List Bool) (r : Rectangle) (k : ℕ) (b : Bool) → is_new cells cover (place columns r k) ≡ b
    → new_cells columns cells cover r (k + 1) ≡ new_cells columns cells cover r k ++ (if b then cell_of r k ∷ [] else [])
one_more columns cells cover r k b e =
    ap (new_cells columns cells cover r) (add-one k) ∙ ap (λ (b : Bool). new_cells columns cells cover r k ++ (if b then cell_of r k ∷ [] else [])) e

pub loop-k-preserved : goal.loop-k-preserved
loop-k-preserved c =
    let a = c.args in
    let k = c.loop-k.k in
    let seen : is_new a.cells.now a.cover.now (place a.columns a.rectangle k) ≡ c.is_new.result
    = sym (c.is_new.ensures ∙ ap (is_new a.cells.now a.cover.now) c.place.ensures) in
    let more = λ (b : Bool) (is : c.is_new.result ≡ b). sym (one_more a.columns a.cells.now a.cover.now a.rectangle k b (seen ∙ is)) in
    elim c.if-is_new.branch [
      | then-is_new+in_ok-push w ↦
          rw (w.found-is, w.in_ok-push.ensures.items, c.loop-k.invariant, w.cell.ensures) (more _ w.if-is_new.true)
      | else-is_new w ↦ rw (w.found-is, c.loop-k.invariant) (sym (append-nil _) ∙ more _ w.if-is_new.false)
    ]
