use Rattle.std.proofs.Common.{◌++◌, ◌∷◌, [], map, take, sym, ap, ◌∙◌}
use Rattle.std.proofs.lemmas.List.{map_more}
use Rattle.roskevad_c.specs.Things.{row_of}
use Rattle.roskevad_c.proofs.told.rows_for_c.Goals as goal

pub loop-row-preserved : goal.loop-row-preserved
loop-row-preserved c =
    let l = c.loop-row in
    let rows = c.args.rows.now in
    c.in_ok-push.ensures.items
    ∙ (ap (λ made. made ++ c.of.result ∷ []) l.invariant
    ∙ (ap (λ row. map row_of (take l.row-index rows) ++ row ∷ []) c.of.ensures ∙ sym (map_more row_of rows l.row-index _ c.loop-row-test.true)))
