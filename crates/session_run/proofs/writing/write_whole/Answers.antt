use Rattle.std.proofs.Common.{◌++◌, ap, ◌∙◌, sym}
use Rattle.std.proofs.lemmas.List.{take_rest}
use Rattle.session_run.proofs.Appending.{takes_more}
use Rattle.session_run.proofs.writing.write_whole.Goals as goal

pub loop-rest-preserved : goal.loop-rest-preserved
loop-rest-preserved g c =
    let m = takes_more _ _ _ _ _ _ _ c.loop-rest.invariant.1 c.loop-rest.invariant.2 c.in-Ok.ensures.bytes in
    (m.0, m.1 ∙ ap (λ zs. m.0 ++ zs) (sym (take_rest c.loop-rest.rest.now c.in-Ok.count)), m.2)
