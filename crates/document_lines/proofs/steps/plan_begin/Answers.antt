use Rattle.document_lines.proofs.Macros.{begin-macros}
use Rattle.document_lines.proofs.steps.plan_begin.Goals as goal

pub returns-clause-kinds : goal.returns-clause-kinds
returns-clause-kinds g c =
    rw c.answered.ensures
    (begin-macros g.C.Command.change c.args.stack.now c.begin_macro-answer.new.self c.args.text.now c.args.action.now
    c.begin_macro-answer.result c.begin_macro-answer.ensures.nests)
