use Rattle.std.proofs.Common.{◌≡◌, ℕ, List, [], ◌∷◌, ◌++◌, map, get_or, sym, ap, ◌∙◌, arith}
use Rattle.std.proofs.lemmas.List.FromFn.{map-range_with_len_more}
use Rattle.std.specs.List.{range_with_len}
use Rattle.infinite_maps.specs.Rectangles.{place}
use Rattle.infinite_maps.proofs.cells.cut.Goals as goal

pub loop-k-preserved : goal.loop-k-preserved
loop-k-preserved c =
    let k = c.loop-k.k in
    let f = λ (i : ℕ). get_or c.args.cells.now (place c.args.columns c.args.rectangle i) 0 in
    let value : c.cell_at.result ≡ f k = c.cell_at.ensures ∙ ap (λ (at : ℕ). get_or c.args.cells.now at 0) c.place.ensures in
    c.in_ok-push.ensures.items
    ∙ (ap (λ (xs : List ℕ). xs ++ c.cell_at.result ∷ []) c.loop-k.invariant
    ∙ (ap (λ (n : ℕ). map f (range_with_len 0 k) ++ n ∷ []) value ∙ sym (map-range_with_len_more f 0 k k (omega arith))))
