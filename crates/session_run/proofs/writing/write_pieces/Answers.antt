use Rattle.lines.proofs.Finding.{on_err}
use Rattle.session_run.proofs.Appending.{appends_more, beginning_of_first, beginning_of_second}
use Rattle.session_run.proofs.writing.write_pieces.Goals as goal

pub returns-in_err-write_whole-clause-err : goal.returns-in_err-write_whole-clause-err
returns-in_err-write_whole-clause-err g c = on_err _ (beginning_of_first _ _ _ _ (beginning_of_first _ _ _ _ c.in_err-write_whole.ensures.err))

pub returns-in_err-write_whole-2-clause-err : goal.returns-in_err-write_whole-2-clause-err
returns-in_err-write_whole-2-clause-err g c =
    on_err _ (beginning_of_first _ _ _ _ (beginning_of_second _ _ _ _ _ c.in_ok-write_whole.ensures.ok c.in_err-write_whole-2.ensures.err))

pub returns-in_err-write_whole-3-clause-err : goal.returns-in_err-write_whole-3-clause-err
returns-in_err-write_whole-3-clause-err g c =
    on_err _ (beginning_of_second _ _ _ _ _ (appends_more _ _ _ _ _ c.in_ok-write_whole.ensures.ok c.in_ok-write_whole-2.ensures.ok)
    c.in_err-write_whole-3.ensures.err)
