use Rattle.std.proofs.Common.{◌++◌, string_bytes, encode_utf8, ap, ◌∙◌}
use Rattle.std.proofs.lemmas.Str.{IsCharBoundary-after_ascii}
use Rattle.xml_text.proofs.SaidLaws.{small_changed, said_pair, said_blank}
use Rattle.xml_text.proofs.said.push_changed.Goals as goal

pub range_from-rest-requires : goal.range_from-rest-requires
range_from-rest-requires c =
    λ _. IsCharBoundary-after_ascii c.args.text.now 0 c.utf8.text c.requires.some (small_changed c.args.is_value _ c.requires.changed)

pub returns-then-is_line_end-clause-said : goal.returns-then-is_line_end-clause-said
returns-then-is_line_end-clause-said c =
    said_pair _ _ _ _ _ c.requires.some c.requires.changed c.range_from-rest.ensures.value c.is_line_end.ensures c.if-is_line_end.true

pub returns-clause-said : goal.returns-clause-said
returns-clause-said c =
    said_blank _ _ _ _ _ _ c.requires.some c.requires.changed c.range_from-rest.ensures.value c.is_line_end.ensures c.if-is_line_end.false
    (c.in_ok-push.ensures.bytes ∙ ap (λ b. string_bytes c.args.out.now ++ encode_utf8 b) c.blank_of.ensures)
