use Rattle.std.proofs.Common.{◌≡◌, ◌≤◌, ◌∷◌, true, false, length, sym, ap, ◌∙◌, arith}
use Rattle.session.specs.declared.limits.TheConstants.{MAX_LINE}
use Rattle.session.specs.Grammar.{read}
use Rattle.session.specs.Left.{next}
use Rattle.session.specs.MoreGrammar.{more_form}
use Rattle.session.specs.WordFaults.{is_at_more_word}
use Rattle.session.specs.Words.{words}
use Rattle.session.proofs.Faults.{next_first}
use Rattle.session.proofs.FirstChecks.{more_checked, more_refused}
use Rattle.session.proofs.MoreFaults.{more_told}
use Rattle.session.proofs.MoreForms.{given_more_spelled}
use Rattle.session.proofs.more_lines.read_more_line.Goals as goal

pub returns-in_default-clause-value : goal.returns-in_default-clause-value
returns-in_default-clause-value g c =
    let short : length c.args.bytes.now ≤ MAX_LINE = omega (arith, c.if-bytes-gt-MAX_LINE.false) in
    more_refused c.args.bytes.now short c.in_default.ensures.none

pub returns-clause-value : goal.returns-clause-value
returns-clause-value g c =
    let bytes = c.args.bytes.now in
    let short : length bytes ≤ MAX_LINE = omega (arith, c.if-bytes-gt-MAX_LINE.false) in
    let e = more_checked bytes short c.in-Some.ensures.some.1
    ∙ ap (read more_form) (ap words (sym c.in-Some.ensures.some.0) ∙ c.cut.ensures.pieces)
    ∙ ap (λ left. read more_form (c.cut.result.0.now ∷ left)) (sym c.begin.ensures.words) in
    rw e c.more.ensures.value

pub returns-clause-spelled : goal.returns-clause-spelled
returns-clause-spelled g c = given_more_spelled c.args.bytes.now c.more.result (returns-clause-value g c)

pub returns-clause-fault : goal.returns-clause-fault
returns-clause-fault g c = λ start at.
    let bytes = c.args.bytes.now in
    let short : length bytes ≤ MAX_LINE = omega (arith, c.if-bytes-gt-MAX_LINE.false) in
    let read_is = more_checked bytes short c.in-Some.ensures.some.1 in
    let ws = ap words (sym c.in-Some.ensures.some.0) ∙ c.cut.ensures.pieces ∙ ap (λ left. c.cut.result.0.now ∷ left) (sym c.begin.ensures.words) in
    let first = c.begin.ensures.place ∙ ap next start ∙ next_first in
    more_told bytes c.more.new.fields.place c.begin.new.self.place (c.cut.result.0.now ∷ c.begin.new.self.words) c.more.result
    c.in-Some.ensures.some.1 short c.more.ensures.value c.more.ensures.place ws first (sym (ap is_at_more_word read_is) ∙ at)

pub returns-in_default-clause-fault : goal.returns-in_default-clause-fault
returns-in_default-clause-fault g c = λ start at.
    let none : false ≡ true = sym (ap is_at_more_word (returns-in_default-clause-value g c)) ∙ at in absurd cc
