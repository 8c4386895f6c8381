use Rattle.std.proofs.Common.{sym, ap, ◌∙◌, subst, IsCharBoundary}
use Rattle.std.specs.List.{prefix_len}
use Rattle.xml_text.specs.Words.{is_of_name}
use Rattle.xml_text.proofs.WordLaws.{front_boundary, small_of_name}
use Rattle.xml_text.proofs.words.name.Goals as goal

pub split_at-requires : goal.split_at-requires
split_at-requires c = subst (IsCharBoundary c.args.text.now) (sym (c.name_at.ensures ∙ ap (prefix_len is_of_name) c.as_bytes.ensures.value))
    (front_boundary is_of_name c.args.text.now small_of_name c.utf8.text)
