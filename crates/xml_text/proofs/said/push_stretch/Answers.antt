use Rattle.std.proofs.Common.{eqb-true, sym}
use Rattle.xml_text.proofs.SaidLaws.{said_all, said_more}
use Rattle.xml_text.proofs.said.push_stretch.Goals as goal

pub returns-then-is_empty-clause-said : goal.returns-then-is_empty-clause-said
returns-then-is_empty-clause-said c =
    said_all c.args.is_value _ _ _ _ _ c.stretch.ensures.said (eqb-true _ _ (sym c.if-is_empty.ensures)) c.in_ok-push_str.ensures.bytes

pub returns-clause-said : goal.returns-clause-said
returns-clause-said c =
    said_more c.args.is_value _ _ _ _ _ _ _ c.stretch.ensures.said c.in_ok-push_str.ensures.bytes c.in_ok-rest.ensures.said
