use Rattle.std.proofs.Common.{rules, ◌≡◌, true, sym, subst}
use Rattle.session.specs.Grammar.{line_of}
use Rattle.session.specs.Faults.{IsFaultAt}
use Rattle.session.specs.WordFaults.{is_at_word}
use Rattle.session.proofs.FirstChecks.{unread}
use Rattle.session.proofs.word_faults.word_fault.Goals as goal

pub returns-in_default-clause-value : goal.returns-in_default-clause-value
returns-in_default-clause-value c = sym (unread c.args.line.now c.in_default.ensures.none)

pub returns-in-Err-BadWord-clause-place : goal.returns-in-Err-BadWord-clause-place
returns-in-Err-BadWord-clause-place c =
    let at : true ≡ is_at_word (line_of c.args.line.now) = search rules in
    subst (λ place. IsFaultAt place c.args.line.now) (sym c.at_word.ensures) (c.parse_line_along.ensures.fault c.new-last.ensures (sym at))
