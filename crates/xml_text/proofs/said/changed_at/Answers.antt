use Rattle.std.proofs.Common.{true, false, ◌∙◌}
use Rattle.memchr.specs.Find.{is_byte, is_byte3}
use Rattle.xml_text.specs.Said.{is_changed}
use Rattle.xml_text.proofs.SaidLaws.{first_place, changed_text, changed_value}
use Rattle.xml_text.proofs.said.changed_at.Goals as goal

pub returns-then-is_value : goal.returns-then-is_value
returns-then-is_value c =
    rw c.if-is_value.true (c.at_or_end.ensures ∙ first_place (is_changed true) (is_byte3 13 9 10) _ _ changed_value c.memchr3.ensures)

pub returns-else-is_value : goal.returns-else-is_value
returns-else-is_value c =
    rw c.if-is_value.false (c.at_or_end-else-is_value.ensures ∙ first_place (is_changed false) (is_byte 13) _ _ changed_text c.memchr.ensures)
