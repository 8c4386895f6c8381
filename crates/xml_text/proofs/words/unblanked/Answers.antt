use Rattle.std.proofs.Common.{sym, ap, ◌∙◌, subst, IsCharBoundary}
use Rattle.std.specs.List.{prefix_len}
use Rattle.xml_text.specs.Words.{is_blank}
use Rattle.xml_text.proofs.WordLaws.{front_boundary, small_blank}
use Rattle.xml_text.proofs.words.unblanked.Goals as goal

pub range_from-requires : goal.range_from-requires
range_from-requires c = λ _. subst (IsCharBoundary c.args.text.now) (sym (c.blanks_at.ensures ∙ ap (prefix_len is_blank) c.as_bytes.ensures.value))
    (front_boundary is_blank c.args.text.now small_blank c.utf8.text)
