use Rattle.session_run.proofs.Endings.{clean-Tells}
use Rattle.session_run.proofs.strict.end_over.Goals as goal

pub returns : goal.returns
returns g c =
    let clean = rw c.if-report_unsaved.false at c.report_unsaved.ensures.clean in
    (λ _. clean, clean-Tells _ _ _ clean c.report_unsaved.ensures.told)
