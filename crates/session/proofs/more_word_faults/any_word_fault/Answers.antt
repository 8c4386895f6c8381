use Rattle.std.proofs.Common.{rules, ◌≡◌, true, sym, subst, ◌∙◌}
use Rattle.std.specs.Prelude.{max}
use Rattle.session.specs.Grammar.{line_of}
use Rattle.session.specs.MoreFaults.{IsAnyFaultAt}
use Rattle.session.specs.MoreGrammar.{more_line_of}
use Rattle.session.specs.WordFaults.{is_at_more_word, is_at_word}
use Rattle.session.proofs.AnyFaults.{later_is_of_any, unread_by_any}
use Rattle.session.proofs.more_word_faults.any_word_fault.Goals as goal

pub returns-in_default-clause-value : goal.returns-in_default-clause-value
returns-in_default-clause-value c = sym (unread_by_any c.args.line.now c.in_default.ensures.none)

pub returns-clause-place : goal.returns-clause-place
returns-clause-place c =
    let bytes = c.args.line.now in
    let at : is_at_word (line_of bytes) ≡ true = search rules in
    let more_at : is_at_more_word (more_line_of bytes) ≡ true = search rules in
    let place : c.at_word.result.place ≡ max c.parse_line_along.new.trail.place c.parse_more_line_along.new.trail.place =
    c.at_word.ensures ∙ c.later.ensures in
    subst (λ p. IsAnyFaultAt p bytes) (sym place) (later_is_of_any bytes c.parse_line_along.new.trail.place c.parse_more_line_along.new.trail.place
    (c.parse_line_along.ensures.fault c.new-plain.ensures at)
    (c.parse_more_line_along.ensures.fault c.new-more.ensures more_at))
