use Rattle.std.proofs.Common.{sym, ap, ◌∙◌, subst, IsCharBoundary}
use Rattle.std.specs.List.{position_or_len}
use Rattle.xml_text.specs.Said.{is_changed}
use Rattle.xml_text.proofs.SaidLaws.{plain_front, changed_boundary, changed_there}
use Rattle.xml_text.proofs.said.stretch.Goals as goal

pub split_at-requires : goal.split_at-requires
split_at-requires c =
    subst (IsCharBoundary c.args.text.now) (sym (c.changed_at.ensures ∙ ap (position_or_len (is_changed c.args.is_value)) c.as_bytes.ensures.value))
    (changed_boundary c.args.is_value c.args.text.now)

pub returns-clause-said : goal.returns-clause-said
returns-clause-said c =
    let n = c.changed_at.ensures ∙ ap (position_or_len (is_changed c.args.is_value)) c.as_bytes.ensures.value in
    rw (c.split_at.ensures.front, c.split_at.ensures.back, n) (plain_front c.args.is_value c.args.text.now)

pub returns-clause-changed : goal.returns-clause-changed
returns-clause-changed c =
    let n = c.changed_at.ensures ∙ ap (position_or_len (is_changed c.args.is_value)) c.as_bytes.ensures.value in
    rw (c.split_at.ensures.back, n) (changed_there c.args.is_value c.args.text.now)
