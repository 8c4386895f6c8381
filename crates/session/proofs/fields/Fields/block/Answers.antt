use Rattle.std.proofs.Common.{◌≡◌, ◌∙◌, cond, true, ap}
use Rattle.session.specs.Left.{is_side, next}
use Rattle.session.proofs.FieldWords.{rows_side}
use Rattle.session.proofs.fields.Fields.block.Goals as goal

pub returns-clause-place : goal.returns-clause-place
returns-clause-place g c =
    let p = c.number_as.new.self.place in
    let side : is_side c.in_ok-width.width ≡ true = rows_side c.in_ok-width.width c.number_as.new.self.words _ c.in_ok-values.ensures.value in
    c.rows.ensures.place ∙ ap (λ b. cond b (next p) p) side ∙ ap next c.number_as.ensures.place
