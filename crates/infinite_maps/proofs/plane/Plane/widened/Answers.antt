use Rattle.std.proofs.Common.{◌≡◌, ℕ, ◌/◌, ◌%◌, max, List, [], ◌∷◌, ◌++◌, map, sym, ap, ◌∙◌, arith}
use Rattle.std.proofs.lemmas.List.FromFn.{map-range_with_len_more}
use Rattle.std.specs.List.{range_with_len}
use Rattle.infinite_maps.specs.Wide.{wide, before_x, cell_behind, wide_cell}
use Rattle.infinite_maps.proofs.plane.Plane.widened.Goals as goal

pub loop-k-preserved : goal.loop-k-preserved
loop-k-preserved c =
    let k = c.loop-k.k in
    let p = c.args.self in
    let f = λ (i : ℕ). wide_cell p c.args.cells.now (i % max (wide p).columns 1) (i / max (wide p).columns 1) in
    let at = λ (columns dx dy : ℕ). cell_behind p c.args.cells.now dx dy (k % columns) (k / columns) in
    let columns : c.max-columns.result ≡ max (wide p).columns 1 = c.max-columns.ensures ∙ ap (λ q. max q.columns 1) c.wide-wide.ensures in
    let value : c.cell_behind.result ≡ f k =
    c.cell_behind.ensures
    ∙ (ap (λ n. at n c.before_x-before_x.result c.before_y-before_y.result) columns
    ∙ (ap (λ n. at (max (wide p).columns 1) n c.before_y-before_y.result) c.before_x-before_x.ensures
    ∙ ap (λ n. at (max (wide p).columns 1) (before_x p) n) c.before_y-before_y.ensures)) in
    c.in_ok-push.ensures.items
    ∙ (ap (λ (xs : List ℕ). xs ++ c.cell_behind.result ∷ []) c.loop-k.invariant
    ∙ (ap (λ (n : ℕ). map f (range_with_len 0 k) ++ n ∷ []) value ∙ sym (map-range_with_len_more f 0 k k (omega arith))))
