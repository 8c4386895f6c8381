use Rattle.std.proofs.Common.{◌≡◌, ◌-◌, List, [], ◌∷◌, ◌++◌, append_assoc, Some, OnOk, sym, ap, ◌∙◌, subst}
use Rattle.std.specs.Option.{option_copied}
use Rattle.map_lists.specs.declared.rows.LayerRow.{LayerRow}
use Rattle.map_lists.specs.Rows.{row_of, rows_among}
use Rattle.map_lists.proofs.RowWalks.{rows-group, rows-no_group, rows-no_groups}
use Rattle.map_lists.proofs.rows.+rows.Goals as goal

pub push_under-returns-then-groups-eq0 : goal.push_under-returns-then-groups-eq0
push_under-returns-then-groups-eq0 t c =
    let old = c.args.rows.now.items in
    c.in_ok-push.ensures.items ∙ ap (λ (r : LayerRow). old ++ r ∷ []) c.of.ensures
    ∙ ap (λ (rs : List LayerRow). old ++ rs) (rows-no_groups c.args.groups c.args.parent c.args.layer.now c.if-groups-eq0.true)

pub push_under-returns-in-Some : goal.push_under-returns-in-Some
push_under-returns-in-Some t c =
    let old = c.args.rows.now.items in
    let l = c.args.layer.now in
    let own = row_of c.args.parent l ∷ [] in
    let rest = rows_among (c.args.groups - 1) (Some l.id) c.in-Some.inside.now in
    let one = c.in_ok-push.ensures.items ∙ ap (λ (r : LayerRow). old ++ r ∷ []) c.of.ensures in
    let group = sym c.layers.ensures ∙ ap option_copied c.in-Some.is in
    let all = ap (λ (rs : List LayerRow). rs ++ rest) one ∙ append_assoc old own rest
    ∙ ap (λ (rs : List LayerRow). old ++ rs) (rows-group c.args.groups c.args.parent l c.in-Some.inside.now c.if-groups-eq0.false group) in
    subst (λ (rs : List LayerRow). OnOk c.push_rows.result (c.push_rows.new.rows.items ≡ rs)) all c.push_rows.ensures

pub push_under-returns-in-None : goal.push_under-returns-in-None
push_under-returns-in-None t c =
    let old = c.args.rows.now.items in
    let group = sym c.layers.ensures ∙ ap option_copied c.in-None.is in
    c.in_ok-push.ensures.items ∙ ap (λ (r : LayerRow). old ++ r ∷ []) c.of.ensures
    ∙ ap (λ (rs : List LayerRow). old ++ rs) (rows-no_group c.args.groups c.args.parent c.args.layer.now group)
